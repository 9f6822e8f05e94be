-- One accepted call and one place: what stands afterwards is what the call gives where it concerns the place, and else what stood.
use mathlib.Core.Bool.{Bool, true, false, cond, ◌&&◌, false≢true}
use mathlib.Core.List.{List}
use mathlib.Core.Logic.{◌⊎◌, inl, ⊎_elim}
use mathlib.Core.Path.{◌≡◌, refl, sym, ap, ◌∙◌}
use Prim.Native.Nat.{ℕ, suc, ◌≤◌, ◌<◌}
use native.Mathlib.Omega.{arith}
use lib.Dec.{leb}
use lib.ListN.{length, get_or}
use borrow.Author.Tests.{lt-ltb, le-ltb, ne_eqb}
use Rattle.words.specs.Lists.{find}
use Rattle.laws.proofs.Cases.{on, by-lt, by-eq, and_right, and_assoc, same-either}
use Rattle.laws.proofs.Lists.{find_at}
use Rattle.meaning.specs.Time.{is_period_at, days, day_number, day_of, is_period, periods_on, is_open, with_gate_closed}
use Rattle.meaning.specs.Authorisations.{row_at, is_pair}
use Rattle.meaning.specs.Settings.{Setting}
use Rattle.meaning.specs.Ledgers.{Sort, index, slot_at, at, originator_of, Side, side}
use Rattle.meaning.specs.Messages.{Message, notification, nullification, about, from, leaves, says, rewritten, held_after, written}
use Rattle.meaning.specs.Books.{Book}
use Rattle.meaning.specs.Soundness.{place_right}
use Rattle.meaning.specs.Calls.{Call, gate, message, accepted, act}
use Rattle.meaning.specs.History.{concerns, gives, standing}
use Rattle.meaning.proofs.Places.{slot-index, day-index, period-index, index-lt, rewritten-at}
use Rattle.meaning.proofs.Clock.{is-period-on, reaches-is}
use Rattle.meaning.proofs.Sound.{Lawful, Sound}
use Rattle.meaning.proofs.Standing.{length-side}
use Rattle.meaning.proofs.Held.{Room, with-now, with-after, held-is, unheld-is}
use Rattle.meaning.proofs.Accepted.{CallPasses, call_passes}
use Rattle.meaning.proofs.Keeps.{length-held_after, side-written}

-- ---- the customer's words and the document's

module _ {K : Sort} where
  -- the place that a message concerns is one that it is about, that was open, and from its first day on
  pub concerns-is : (i : ℕ) (σ : Side) (D period : ℕ) (s : Setting) (m : Message K)
      → concerns i σ D period s (message m) ≡ about s.rows m i σ && (is_open s.time D period && leb (from m) D)
  unfolding concerns about from
  concerns-is i σ D period s (notification n) = and_assoc (about s.rows (notification n) i σ) (is_open s.time D period) (leb n.first D)
  concerns-is i σ D period s (nullification x) = and_assoc (is_pair (row_at s.rows (originator_of i)) x.account x.other) (is_open s.time D period) (leb x.first D)

  -- what the document puts at a place is what the customer says that the message gives
  pub gives-is : (D periods period : ℕ) (m : Message K) → says (leaves m) D periods period ≡ gives D periods period (message m)
  unfolding says leaves gives
  gives-is D periods period (notification n) =
      by-lt n.last D
      (λ h. rw (lt-ltb n.last D h, le-ltb D (suc n.last) h))
      (λ h. rw (le-ltb n.last D h, lt-ltb D (suc n.last) (omega arith)))
  gives-is D periods period (nullification x) = rw (le-ltb D 0 (omega arith))

  -- ---- what stands

  module _ (b : Book K) (i : ℕ) (σ : Side) (D period : ℕ) where
    pub stands-held : find (suc i) b.ledger.held < length b.ledger.held
        → standing b i σ D period ≡ get_or (side b.ledger σ) (index (days b.setting.time) (find (suc i) b.ledger.held) (day_of b.setting.time D) period) K.nothing
    unfolding standing at
    stands-held h = rw (held-is b.ledger.held i h)

    pub stands-unheld : length b.ledger.held ≤ find (suc i) b.ledger.held → standing b i σ D period ≡ K.nothing
    unfolding standing
    stands-unheld h = rw (unheld-is b.ledger.held i h)

unheld-wrong : (r q : Bool) → r && false && q ≡ true → ⊥
unheld-wrong true q e = false≢true e
unheld-wrong false q e = false≢true e

-- where the message's identifier is not held, a slot is unheld
abbrev Fits : {K : Sort} → List ℕ → Message K → Type 0
Fits held (notification n) = Room held n.identifier
Fits held (nullification x) = Unit {0}

-- where an identifier is after a message: where it was; or it is new, and its slot was unheld
after : {K : Sort} (i : ℕ) (m : Message K) (held : List ℕ) → Fits held m
    → (find (suc i) (held_after m held) ≡ find (suc i) held)
    ⊎ ((length held ≤ find (suc i) held) × (find (suc i) (held_after m held) < length held) × (get_or held (find (suc i) (held_after m held)) 0 ≡ 0))
unfolding held_after
after i (notification n) held r = with-after n.identifier held i r
after i (nullification x) held r = inl refl

-- a message that concerns an identifier, and does not hold it afterwards, gives nothing
unheld-gives : {K : Sort} (i : ℕ) (σ : Side) (D periods period : ℕ) (s : Setting) (m : Message K) (held : List ℕ) → Fits held m
    → length held ≤ find (suc i) (held_after m held)
    → cond (concerns i σ D period s (message m)) (gives D periods period (message m)) K.nothing ≡ K.nothing
unfolding held_after concerns gives
unheld-gives i σ D periods period s (notification n) held r h =
    by-eq i n.identifier
    (λ q. absurd (omega (arith, rw (← q) at (with-now n.identifier held r), rw (← q) at h)))
    (λ q. rw (ne_eqb i n.identifier q))
unheld-gives {K} i σ D periods period s (nullification x) held r h =
    same-either (concerns {K = K} i σ D period s (message (nullification x))) K.nothing

module _ {K : Sort} (lawful : Lawful K) where
  -- nothing stands in a slot that is unheld
  pub unheld-nothing : (b : Book K) → Sound b → (σ : Side) (j : ℕ) → j < length (side b.ledger σ) → get_or b.ledger.held (slot_at (days b.setting.time) j) 0 ≡ 0
      → get_or (side b.ledger σ) j K.nothing ≡ K.nothing
  unfolding place_right
  unheld-nothing b s σ j h z =
      let v = get_or (side b.ledger σ) j K.nothing in
      on (K.same v K.nothing)
      (λ e. lawful.same-is v K.nothing e)
      (λ e. absurd (unheld-wrong (K.in_range v) _ (rw (e, z) at (s.place σ j h))))

  module _ (b : Book K) (s : Sound b) (i : ℕ) (σ : Side) (D period : ℕ) (p : is_period b.setting.time D period ≡ true) where
    -- what a message makes of the place that a slot has for the day and period, if the slot holds the identifier afterwards
    place-moves : (m : Message K) (held : List ℕ) (k : ℕ) → k < length b.ledger.held → get_or held k 0 ≡ suc i
        → get_or (rewritten b.setting.rows b.setting.time m held σ (side b.ledger σ)) (index (days b.setting.time) k (day_of b.setting.time D) period) K.nothing
        ≡ cond (concerns i σ D period b.setting (message m)) (gives D (periods_on b.setting.time D) period (message m))
        (get_or (side b.ledger σ) (index (days b.setting.time) k (day_of b.setting.time D) period) K.nothing)
    unfolding is_period
    place-moves m held k hk e =
        let t = b.setting.time in
        let d = day_of t D in
        let w = is-period-on t D period p in
        let hd : d < days t = w.1.day in
        let h1 : 1 ≤ period = w.1.low in
        let h50 : period ≤ 50 = w.1.most in
        let e_d : day_number t d ≡ D = omega (arith, w.0) in
        let q : is_period_at t.codes d period ≡ true = and_right (leb t.first D) (is_period_at t.codes d period) p in
        rewritten-at b.setting.rows t m held σ (side b.ledger σ) (index (days t) k d period) (rw (length-side b s σ) (index-lt (days t) k hd h1 h50 hk))
        ∙ rw (slot-index, day-index, period-index, e, reaches-is t m d period q, e_d, concerns-is, ← gives-is D (periods_on t D) period m)

    pub message-moves : (m : Message K) → Fits b.ledger.held m
        → standing (act b (message m)) i σ D period
        ≡ cond (concerns i σ D period b.setting (message m)) (gives D (periods_on b.setting.time D) period (message m)) (standing b i σ D period)
    unfolding act written
    message-moves m r =
        let t = b.setting.time in
        let d = day_of t D in
        let held = held_after m b.ledger.held in
        let k = find (suc i) held in
        let b' = act b (message m) in
        let len = length-held_after lawful m b.ledger.held in
        let w = is-period-on t D period p in
        let hd : d < days t = w.1.day in
        let h1 : 1 ≤ period = w.1.low in
        let h50 : period ≤ 50 = w.1.most in
        let c = concerns i σ D period b.setting (message m) in
        by-lt k (length held)
        (λ l.
        let kl : k < length b.ledger.held = omega arith in
        let j = index (days t) k d period in
        let old : get_or (side b.ledger σ) j K.nothing ≡ standing b i σ D period =
        ⊎_elim
        (λ q. ap (λ (x : ℕ). get_or (side b.ledger σ) (index (days t) x d period) K.nothing) q ∙ sym (stands-held b i σ D period (rw q at kl)))
        (λ q. unheld-nothing b s σ j (rw (length-side b s σ) (index-lt (days t) k hd h1 h50 kl)) (rw (slot-index (days t) k hd h1 h50) q.2) ∙ sym (stands-unheld b i σ D period q.0))
        (after i m b.ledger.held r) in
        stands-held b' i σ D period l
        ∙ ap (λ (x : List K.Val). get_or x j K.nothing) (side-written lawful b.setting.rows t m b.ledger σ)
        ∙ place-moves m held k kl (find_at (suc i) held l)
        ∙ ap (λ (v : K.Val). cond c (gives D (periods_on b.setting.time D) period (message m)) v) old)
        (λ l.
        let u : standing b i σ D period ≡ K.nothing =
        ⊎_elim (λ q. stands-unheld b i σ D period (omega arith)) (λ q. absurd (omega arith)) (after i m b.ledger.held r) in
        stands-unheld b' i σ D period l ∙ sym (rw u (unheld-gives i σ D (periods_on t D) period b.setting m b.ledger.held r (omega arith))))

    -- a gate leaves every place as it is
    gate-moves : standing (act b gate) i σ D period ≡ standing b i σ D period
    unfolding act with_gate_closed standing
    gate-moves = refl

    fits : (m : Message K) → CallPasses b (message m) → Fits b.ledger.held m
    fits (notification n) c = c.room
    fits (nullification x) c = tt

    -- THE STEP of the history
    pub moves : (c : Call K) → accepted b c ≡ true
        → standing (act b c) i σ D period
        ≡ cond (concerns i σ D period b.setting c) (gives D (periods_on b.setting.time D) period c) (standing b i σ D period)
    unfolding concerns
    moves gate a = gate-moves
    moves (message m) a = message-moves m (fits m (call_passes b (message m) a))
