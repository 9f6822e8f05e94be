-- What follows from the history and beside it: a refused call changes nothing, a closed place never changes, every stored volume of every slot
-- follows from the history, and so do the identifiers that are held and their slots.
use mathlib.Core.Bool.{Bool, true, false, ◌||◌}
use mathlib.Core.List.{List}
use mathlib.Core.Logic.{◌≢◌}
use mathlib.Core.Path.{◌≡◌, refl, sym, ap, ◌∙◌}
use Prim.Native.Nat.{ℕ, suc, ◌+◌, ◌≤◌, ◌<◌}
use native.Mathlib.Omega.{arith}
use lib.ListN.{length, get_or, replicate, length-replicate}
use borrow.Author.Tests.{ne_eqb, ltb-false, le-ltb}
use Rattle.words.specs.Lists.{find}
use Rattle.words.specs.Rules.{answer}
use Rattle.words.specs.Runs.{step}
use Rattle.laws.proofs.Cases.{and-false, or-false}
use Rattle.laws.proofs.Lists.{find-replicate}
use Rattle.laws.proofs.Runs.{foldl, foldl-any, run-keeps, run-folds, refused-nothing}
use Rattle.meaning.specs.Time.{is_open_at, gates_before, days, day_of, is_period, periods_on, is_open, with_gate_closed}
use Rattle.meaning.specs.Settings.{Setting}
use Rattle.meaning.specs.Ledgers.{Sort, index, at, is_held, Side, side, empty_ledger}
use Rattle.meaning.specs.Messages.{notification, nullification, about, held_after, written}
use Rattle.meaning.specs.Books.{Setup, opening_rules, Book, opened_book}
use Rattle.meaning.specs.Calls.{Call, gate, message, refusal, accepted, act}
use Rattle.meaning.specs.History.{Event, event, concerns, decides, standing, after, events_of}
use Rattle.meaning.specs.FromHistory.{notifies, was_accepted}
use Rattle.meaning.proofs.Places.{slot-index, index-lt}
use Rattle.meaning.proofs.Clock.{is-period-on}
use Rattle.meaning.proofs.Sound.{Lawful, Sound}
use Rattle.meaning.proofs.Standing.{length-side}
use Rattle.meaning.proofs.Held.{with-holds, unheld-is}
use Rattle.meaning.proofs.Accepted.{call_passes}
use Rattle.meaning.proofs.Keeps.{keeps}
use Rattle.meaning.proofs.Moves.{concerns-is, moves, stands-held, unheld-nothing}
use Rattle.meaning.proofs.History.{period-back, after-Sound, history}

-- ---- a refused call

module _ {K : Sort} where
  -- one call: its answer decides whether anything happens
  abbrev pub call : Book K → Call K → Book K
  call b c = step accepted act event b c

  pub refused-changes-nothing : (b : Book K) (c : Call K) → refusal b c ≢ 0 → call b c ≡ b
  unfolding accepted
  refused-changes-nothing b c n = refused-nothing accepted act event b c (ne_eqb (refusal b c) 0 n)

  -- ---- closed places

  closed-concerns : (i : ℕ) (σ : Side) (D period : ℕ) (s : Setting) (c : Call K)
      → is_open s.time D period ≡ false → concerns i σ D period s c ≡ false
  unfolding concerns
  closed-concerns i σ D period s gate e = refl
  closed-concerns i σ D period s (message m) e = concerns-is i σ D period s m ∙ rw e (and-false (about s.rows m i σ))

  closed-stays : (b : Book K) (D period : ℕ) (c : Call K) → is_open b.setting.time D period ≡ false → is_open (act b c).setting.time D period ≡ false
  unfolding act with_gate_closed is_open_at
  closed-stays b D period gate e =
      le-ltb (suc b.setting.time.closed) (gates_before b.setting.time.codes (day_of b.setting.time D) + period) (omega (arith, ltb-false b.setting.time.closed _ e))
  closed-stays b D period (message m) e = e

-- a place whose gate is closed never changes again, whatever calls follow, as long as the book has it
module _ {K : Sort} (lawful : Lawful K) (i : ℕ) (σ : Side) (D period : ℕ) where
  pub record ClosedAs (b b' : Book K) : Type 0 where
    pub sound : Sound b'
    pub closed : is_open b'.setting.time D period ≡ false
    pub stands : is_period b'.setting.time D period ≡ true → standing b' i σ D period ≡ standing b i σ D period

  pub closed-never-changes : (b : Book K) → Sound b → is_open b.setting.time D period ≡ false
      → (calls : List (Call K)) → is_period (after b calls).setting.time D period ≡ true → standing (after b calls) i σ D period ≡ standing b i σ D period
  unfolding after
  closed-never-changes b s e calls p =
      (run-keeps accepted act event (ClosedAs b)
      (λ b' c a g.
      record {
        sound = keeps lawful b' c a g.sound;
        closed = closed-stays b' D period c g.closed;
        stands = λ q.
            let was = period-back b' c D period q in
            moves lawful b' g.sound i σ D period was c a
            ∙ rw (closed-concerns i σ D period b'.setting c g.closed) (g.stands was);
      })
      calls b (record { sound = s; closed = e; stands = λ q. refl })).stands p

-- ---- every stored volume

module _ {K : Sort} (lawful : Lawful K) (setup : Setup) (slots lent1 lent2 : ℕ) (opening : answer (opening_rules setup slots lent1 lent2) ≡ 0)
    (calls : List (Call K)) (k : ℕ) (σ : Side) (D period : ℕ) (hk : k < length (after (opened_book K setup slots) calls).ledger.held)
    (p : is_period (after (opened_book K setup slots) calls).setting.time D period ≡ true) where
  -- the volume that is stored for a slot's day and period
  abbrev pub stored : K.Val
  stored =
      let b = after (opened_book K setup slots) calls in
      at K (days b.setting.time) (side b.ledger σ) k (day_of b.setting.time D) period

  -- a slot that holds an identifier stores what the history says of it
  pub stored-held : (i : ℕ) → get_or (after (opened_book K setup slots) calls).ledger.held k 0 ≡ suc i
      → stored ≡ decides (events_of (opened_book K setup slots) calls) i σ D (periods_on (after (opened_book K setup slots) calls).setting.time D) period
  unfolding at
  stored-held i e =
      let b = after (opened_book K setup slots) calls in
      let s = after-Sound lawful setup slots lent1 lent2 opening calls in
      let own = (s.slots k i hk e).own in
      let here : find (suc i) b.ledger.held < length b.ledger.held = rw own hk in
      sym (stands-held b i σ D period here ∙ ap (λ (x : ℕ). get_or (side b.ledger σ) (index (days b.setting.time) x (day_of b.setting.time D) period) K.nothing) own)
      ∙ history lawful setup slots lent1 lent2 opening calls i σ D period p

  -- an unheld slot stores nothing
  pub stored-unheld : get_or (after (opened_book K setup slots) calls).ledger.held k 0 ≡ 0 → stored ≡ K.nothing
  unfolding at
  stored-unheld z =
      let b = after (opened_book K setup slots) calls in
      let r = after-Sound lawful setup slots lent1 lent2 opening calls in
      let w = (is-period-on b.setting.time D period p).1 in
      let hd : day_of b.setting.time D < days b.setting.time = w.day in
      let h1 : 1 ≤ period = w.low in
      let h50 : period ≤ 50 = w.most in
      let j = index (days b.setting.time) k (day_of b.setting.time D) period in
      unheld-nothing lawful b r σ j (rw (length-side b r σ) (index-lt (days b.setting.time) k hd h1 h50 hk))
      (rw (slot-index (days b.setting.time) k hd h1 h50) z)

-- ---- the identifiers that are held, and their slots

opened-unheld : (K : Sort) (s : Setup) (slots i : ℕ) → is_held (opened_book K s slots).ledger.held i ≡ false
unfolding opened_book empty_ledger
opened-unheld K s slots i =
    unheld-is (replicate slots 0) i (omega (arith, length-replicate {A = ℕ} slots 0, find-replicate (suc i) slots 0 (λ e. omega arith)))

module _ {K : Sort} where
  -- each accepted notification's identifier keeps its slot, or takes the lowest unheld one
  abbrev pub held_after_call : Call K → List ℕ → List ℕ
  held_after_call gate held = held
  held_after_call (message m) held = held_after m held

  act-held : (b : Book K) (c : Call K) → (act b c).ledger.held ≡ held_after_call c b.ledger.held
  unfolding act written
  act-held b gate = refl
  act-held b (message m) = refl

  pub held-follow : (b : Book K) (calls : List (Call K))
      → (after b calls).ledger.held ≡ foldl (λ (held : List ℕ) (e : Event K). held_after_call e.call held) b.ledger.held (events_of b calls)
  unfolding after events_of
  held-follow b calls =
      run-folds accepted act event (λ (x : Book K). x.ledger.held) (λ (held : List ℕ) (e : Event K). held_after_call e.call held) (λ x c a. act-held x c) calls b

  act-holds : (b : Book K) (c : Call K) (i : ℕ) → accepted b c ≡ true → is_held (act b c).ledger.held i ≡ is_held b.ledger.held i || notifies i c
  unfolding act written held_after
  act-holds b gate i a = sym (or-false (is_held b.ledger.held i))
  act-holds b (message (notification n)) i a = with-holds n.identifier b.ledger.held (call_passes b (message (notification n)) a).room i
  act-holds b (message (nullification x)) i a = sym (or-false (is_held b.ledger.held i))

  -- an identifier is held exactly when a notification of it was accepted: no slot is freed
  pub held-when-accepted : (setup : Setup) (slots : ℕ) (calls : List (Call K)) (i : ℕ)
      → is_held (after (opened_book K setup slots) calls).ledger.held i ≡ was_accepted (events_of (opened_book K setup slots) calls) i
  unfolding after events_of
  held-when-accepted setup slots calls i =
      run-folds accepted act event (λ (x : Book K). is_held x.ledger.held i) (λ (u : Bool) (e : Event K). u || notifies i e.call) (λ x c a. act-holds x c i a) calls (opened_book K setup slots)
      ∙ foldl-any (λ (e : Event K). notifies i e.call) (is_held (opened_book K setup slots).ledger.held i) (events_of (opened_book K setup slots) calls)
      ∙ rw (opened-unheld K setup slots i)
