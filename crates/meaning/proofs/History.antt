-- Demand 3: after any calls on an opened book, what stands for every identifier, side, day and period is what the last accepted message that
-- concerns it gives.
use mathlib.Core.Bool.{true}
use mathlib.Core.List.{List}
use mathlib.Core.Path.{◌≡◌, refl, sym, ◌∙◌}
use Prim.Native.Nat.{ℕ, suc}
use native.Mathlib.Omega.{arith}
use lib.ListN.{length-replicate}
use Rattle.words.specs.Rules.{answer}
use Rattle.laws.proofs.Lists.{find-replicate}
use Rattle.laws.proofs.Runs.{run-keeps}
use Rattle.laws.proofs.Runs as Runs
use Rattle.meaning.specs.Time.{is_period, periods_on, with_gate_closed}
use Rattle.meaning.specs.Ledgers.{Sort, Side, empty_ledger}
use Rattle.meaning.specs.Books.{Setup, opening_rules, Book, opened_book}
use Rattle.meaning.specs.Soundness.{sound}
use Rattle.meaning.specs.Calls.{Call, gate, message, accepted, act}
use Rattle.meaning.specs.History.{Event, event, concerns, gives, decides, standing, after, events_of}
use Rattle.meaning.proofs.Sound.{Lawful, Sound, whole}
use Rattle.meaning.proofs.Keeps.{opened-Sound, keeps}
use Rattle.meaning.proofs.Moves.{moves, stands-unheld}

opened-stands : (K : Sort) (setup : Setup) (slots i : ℕ) (σ : Side) (D period : ℕ) → standing (opened_book K setup slots) i σ D period ≡ K.nothing
unfolding opened_book empty_ledger
opened-stands K setup slots i σ D period = stands-unheld (opened_book K setup slots) i σ D period (omega (arith, length-replicate {A = ℕ} slots 0, find-replicate (suc i) slots 0 (λ e. omega arith)))

module _ {K : Sort} where
  -- a period that the book has after a call it had before
  pub period-back : (b : Book K) (c : Call K) (D period : ℕ) → is_period (act b c).setting.time D period ≡ true → is_period b.setting.time D period ≡ true
  unfolding act is_period with_gate_closed
  period-back b gate D period p = p
  period-back b (message m) D period p = p

  -- and its day was as long
  pub periods-back : (b : Book K) (c : Call K) (D : ℕ) → periods_on (act b c).setting.time D ≡ periods_on b.setting.time D
  unfolding act with_gate_closed
  periods-back b gate D = refl
  periods-back b (message m) D = refl

module _ {K : Sort} (lawful : Lawful K) where
  pub after-keeps : (b : Book K) → Sound b → (calls : List (Call K)) → Sound (after b calls)
  unfolding after
  after-keeps b s calls = run-keeps accepted act event (λ (b' : Book K). Sound b') (λ b' c a s'. keeps lawful b' c a s') calls b s

  -- On a sound book in which nothing stands at a place: what stands there after any calls is what the last event that concerns it gives. The
  -- place is one that the book has then.
  pub history-of : (b : Book K) → Sound b → (i : ℕ) (σ : Side) (D period : ℕ) → standing b i σ D period ≡ K.nothing
      → (calls : List (Call K)) → is_period (after b calls).setting.time D period ≡ true
      → standing (after b calls) i σ D period ≡ decides (events_of b calls) i σ D (periods_on (after b calls).setting.time D) period
  unfolding after events_of decides
  history-of b s i σ D period z calls p =
      let periods = periods_on (after b calls).setting.time D in
      Runs.history accepted act event
      K.nothing
      (λ (e : Event K). concerns i σ D period e.setting e.call)
      (λ (e : Event K). gives D periods period e.call)
      (λ (b' : Book K). standing b' i σ D period)
      (λ (b' : Book K). Sound b')
      (λ (b' : Book K). (is_period b'.setting.time D period ≡ true) × (periods_on b'.setting.time D ≡ periods))
      (λ b' c a s'. keeps lawful b' c a s')
      (λ b' c a s' l. (period-back b' c D period l.0, sym (periods-back b' c D) ∙ l.1))
      (λ b' c a s' l. moves lawful b' s' i σ D period (period-back b' c D period l.0) c a ∙ rw (sym (periods-back b' c D) ∙ l.1))
      calls b s (p, refl) z

module _ {K : Sort} (lawful : Lawful K) (setup : Setup) (slots lent1 lent2 : ℕ) (opening : answer (opening_rules setup slots lent1 lent2) ≡ 0) where
  -- every book of a run from an opened one is sound, so answer 1 never comes
  pub after-Sound : (calls : List (Call K)) → Sound (after (opened_book K setup slots) calls)
  after-Sound calls = after-keeps lawful (opened_book K setup slots) (opened-Sound lawful setup slots lent1 lent2 opening) calls

  pub after-sound : (calls : List (Call K)) → sound (after (opened_book K setup slots) calls) ≡ true
  after-sound calls = whole (after (opened_book K setup slots) calls) (after-Sound calls)

  pub history : (calls : List (Call K)) (i : ℕ) (σ : Side) (D period : ℕ) → is_period (after (opened_book K setup slots) calls).setting.time D period ≡ true
      → standing (after (opened_book K setup slots) calls) i σ D period ≡ decides (events_of (opened_book K setup slots) calls) i σ D (periods_on (after (opened_book K setup slots) calls).setting.time D) period
  history calls i σ D period p =
      history-of lawful (opened_book K setup slots) (opened-Sound lawful setup slots lent1 lent2 opening) i σ D period (opened-stands K setup slots i σ D period) calls p
