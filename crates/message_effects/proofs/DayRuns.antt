-- The places of one day of a slot as runs of the table, and a slot's places day by day.
use mathlib.Core.Bool.{Bool, true, false, cond, ◌&&◌, ◌||◌}
use mathlib.Core.List.{List}
use mathlib.Core.Path.{◌≡◌, refl, sym, ap, ◌∙◌}
use Prim.Native.Nat.{ℕ, suc, ◌+◌, ◌-◌, ◌%◌, ◌≤◌, ◌<◌, min}
use native.Mathlib.Omega.{arith}
use lib.Dec.{leb, ltb, eqb}
use lib.IntN.{ℤ, pos}
use lib.ListN.{length, get_or, replicate, length-replicate, get_or-replicate}
use lib.Seq.{sets}
use borrow.Author.Tests.{leb-true, ltb-true, le-leb, lt-leb, lt-ltb, le-ltb, eq-eqb, ne_eqb}
use Rattle.words.specs.Lists.{map_at}
use Rattle.laws.proofs.Cases.{on, by-lt, by-eq, and_left, and_right, and-false, and-true}
use Rattle.laws.proofs.Lists.{length-map_at, get_or-map_at, map_at-is, map_at-same}
use Rattle.laws.proofs.Stores.{sets-map}
use Rattle.meaning.specs.Time.{Time, days, day_number, periods_at, is_period_at, gates_before, is_open_at}
use Rattle.meaning.specs.Ledgers.{the_mark, index, slot_at, day_at, period_at}
use Rattle.meaning.proofs.Clock.{periods-le}
use Rattle.ledger.proofs.PlaceLaws.{slot-here, day-here, period-here, only_here}
use Rattle.message_effects.specs.Effects.{only, slot_rule}

-- ---- some of the places after others

pub only-id : (p : ℕ → Bool) (f : ℕ → ℤ → ℤ) (j : ℕ) (old : ℤ) → p j ≡ false → only p f j old ≡ old
unfolding only
only-id p f j old e = rw e

pub only-is : (p : ℕ → Bool) (f : ℕ → ℤ → ℤ) (j : ℕ) (old : ℤ) → p j ≡ true → only p f j old ≡ f j old
unfolding only
only-is p f j old e = rw e

module _ (f : ℕ → ℤ → ℤ) (l : List ℤ) where
  pub only_none : (p : ℕ → Bool) → ((j : ℕ) → p j ≡ false) → l ≡ map_at (only p f) l
  only_none p h = map_at-is (only p f) l l the_mark refl (λ j w. sym (only-id p f j (get_or l j the_mark) (h j)))

  pub only-more : (p q r : ℕ → Bool) (l1 l2 : List ℤ) → l1 ≡ map_at (only p f) l → l2 ≡ map_at (only q f) l1
      → ((j : ℕ) → p j ≡ true → q j ≡ false) → ((j : ℕ) → r j ≡ p j || q j) → l2 ≡ map_at (only r f) l
  only-more p q r l1 l2 e1 e2 apart joined =
      let n1 : length l1 ≡ length l = ap length e1 ∙ length-map_at (only p f) l in
      map_at-is (only r f) l l2 the_mark (ap length e2 ∙ length-map_at (only q f) l1 ∙ n1)
      (λ j w.
      let v = get_or l j the_mark in
      let v1 : get_or l1 j the_mark ≡ only p f j v = ap (λ (x : List ℤ). get_or x j the_mark) e1 ∙ get_or-map_at (only p f) l j the_mark w in
      ap (λ (x : List ℤ). get_or x j the_mark) e2
      ∙ get_or-map_at (only q f) l1 j the_mark (omega arith)
      ∙ ap (only q f j) v1
      ∙ on (p j)
      (λ t. only-id q f j (only p f j v) (apart j t) ∙ only-is p f j v t ∙ sym (only-is r f j v (joined j ∙ rw t)))
      (λ t. ap (only q f j) (only-id p f j v t) ∙ on (q j)
      (λ u. only-is q f j v u ∙ sym (only-is r f j v (joined j ∙ rw (t, u))))
      (λ u. only-id q f j v u ∙ sym (only-id r f j v (joined j ∙ rw (t, u))))))

  pub only-all : (p : ℕ → Bool) → ((j : ℕ) (old : ℤ) → p j ≡ false → f j old ≡ old) → map_at (only p f) l ≡ map_at f l
  only-all p h =
      map_at-same (only p f) f l the_mark
      (λ j w. on (p j) (λ t. only-is p f j _ t) (λ t. only-id p f j _ t ∙ sym (h j _ t)))

-- below the next number: below this one, or this one
pub below-not-equal : (k d : ℕ) → ltb k d ≡ true → eqb k d ≡ false
below-not-equal k d h = ne_eqb k d (λ q. omega (arith, ltb-true k d h))

pub below_next : (k d : ℕ) → ltb k (d + 1) ≡ ltb k d || eqb k d
below_next k d =
    by-lt k d
    (λ h. rw (lt-ltb k d h) (lt-ltb k (d + 1) (omega arith)))
    (λ h.
    rw (le-ltb k d h)
    (by-eq k d
    (λ q. lt-ltb k (d + 1) (omega arith) ∙ sym (eq-eqb k d q))
    (λ q. le-ltb k (d + 1) (omega arith) ∙ sym (ne_eqb k d q))))

-- ---- the places of a slot's day

-- the first place of a slot's day, and how many of its periods are closed
abbrev pub base_of : ℕ → ℕ → ℕ → ℕ
base_of n slot d = index n slot d 1

abbrev pub closed_in : Time → ℕ → ℕ
closed_in t d = min (t.closed - gates_before t.codes d) (periods_at t.codes d)

le-shift : (b a j : ℕ) → b ≤ j → leb (b + a) j ≡ leb a (j - b)
le-shift b a j h =
    by-lt j (b + a)
    (λ w. lt-leb (b + a) j w ∙ sym (lt-leb a (j - b) (omega arith)))
    (λ w. le-leb (b + a) j w ∙ sym (le-leb a (j - b) (omega arith)))

lt-shift : (b a j : ℕ) → b ≤ j → ltb j (b + a) ≡ ltb (j - b) a
lt-shift b a j h =
    by-lt j (b + a)
    (λ w. lt-ltb j (b + a) w ∙ sym (lt-ltb (j - b) a (omega arith)))
    (λ w. le-ltb j (b + a) w ∙ sym (le-ltb (j - b) a (omega arith)))

-- a period of a day is open when it is past those that are closed
open-here : (t : Time) (d p : ℕ) → d < days t
    → is_period_at t.codes d (suc p) && is_open_at t.codes t.closed d (suc p) ≡ leb (closed_in t d) p && ltb p (periods_at t.codes d)
unfolding is_period_at is_open_at
open-here t d p h =
    let periods = periods_at t.codes d in
    let gates = gates_before t.codes d in
    rw (lt-ltb d (length t.codes) h, le-leb 1 (suc p) (omega arith))
    (by-lt p periods
    (λ w.
    rw (lt-ltb p periods w)
    (by-lt t.closed (gates + suc p)
    (λ o. rw (lt-ltb t.closed (gates + suc p) o, le-leb (closed_in t d) p (omega arith)))
    (λ o. rw (le-ltb t.closed (gates + suc p) o, lt-leb (closed_in t d) p (omega arith)))))
    (λ w. rw (le-ltb p periods w) (sym (and-false (leb (closed_in t d) p)))))

module _ (t : Time) (n slot d first until : ℕ) (volumes : ℕ → ℕ → ℤ) (e : days t ≡ n) (hd : d < n) where
  rule-here : (j : ℕ) (old : ℤ) → base_of n slot d ≤ j → j < base_of n slot d + 50
      → slot_rule t slot first until volumes j old
      ≡ cond (leb (closed_in t d) (j - base_of n slot d) && ltb (j - base_of n slot d) (periods_at t.codes d) && leb first (day_number t d))
      (cond (ltb (day_number t d) until) (volumes (periods_at t.codes d) (suc (j - base_of n slot d))) the_mark) old
  unfolding slot_rule
  rule-here j old low high =
      let p = j - base_of n slot d in
      let at : j ≡ base_of n slot d + p = omega arith in
      let s : slot_at n j ≡ slot = ap (slot_at n) at ∙ slot-here n slot {p = p} hd (omega arith) in
      let w : day_at n j ≡ d = ap (day_at n) at ∙ day-here n slot {p = p} hd (omega arith) in
      let q : period_at j ≡ suc p = ap period_at at ∙ period-here n slot {p = p} hd (omega arith) in
      rw (e, s, w, q, eq-eqb slot slot refl, open-here t d p (omega arith))

  rule-other : (j : ℕ) (old : ℤ) → eqb (slot_at n j) slot ≡ false → slot_rule t slot first until volumes j old ≡ old
  unfolding slot_rule
  rule-other j old h = rw (e, h)

  -- the rule on that day: a run of places
  day-rule : (j : ℕ) (old : ℤ)
      → only (λ (k : ℕ). eqb (day_at n k) d) (slot_rule t slot first until volumes) j old
      ≡ cond (leb (base_of n slot d + closed_in t d) j && ltb j (base_of n slot d + closed_in t d + (periods_at t.codes d - closed_in t d)) && leb first (day_number t d))
      (cond (ltb (day_number t d) until) (volumes (periods_at t.codes d) (suc (j - base_of n slot d))) the_mark) old
  day-rule j old =
      let base = base_of n slot d in
      let from = closed_in t d in
      let periods = periods_at t.codes d in
      let few = periods-le t.codes d in
      let test : ℕ → Bool = λ k. eqb (day_at n k) d in
      let rule = slot_rule t slot first until volumes in
      let away : (j % 50 < 50 → j ≡ base + j % 50 → ⊥) → only test rule j old ≡ old = λ far.
      by-eq (day_at n j) d
      (λ w. by-eq (slot_at n j) slot
      (λ s. absurd (far (omega arith) (only_here n slot d j s w)))
      (λ s. only-is test rule j old (eq-eqb (day_at n j) d w) ∙ rule-other j old (ne_eqb (slot_at n j) slot s)))
      (λ w. only-id test rule j old (ne_eqb (day_at n j) d w)) in
      by-lt j base
      (λ w. away (λ h q. omega arith) ∙ rw (lt-leb (base + from) j (omega arith)))
      (λ w. by-lt j (base + 50)
      (λ h.
      let at : j ≡ base + (j - base) = omega arith in
      let day : day_at n j ≡ d = ap (day_at n) at ∙ day-here n slot {p = j - base} hd (omega arith) in
      let end : base + from + (periods - from) ≡ base + periods = omega arith in
      only-is test rule j old (eq-eqb (day_at n j) d day)
      ∙ rule-here j old w h
      ∙ rw (end, le-shift base from j w, lt-shift base periods j w))
      (λ h. away (λ r q. omega arith) ∙ rw (le-ltb j (base + from + (periods - from)) (omega arith), and-false (leb (base + from) j))))

  module _ (side : List ℤ) where
    -- before the first day nothing is written
    pub day-early : day_number t d < first → side ≡ map_at (only (λ (k : ℕ). eqb (day_at n k) d) (slot_rule t slot first until volumes)) side
    day-early h =
        map_at-is _ side side the_mark refl
        (λ j w. sym (day-rule j (get_or side j the_mark) ∙ rw (lt-leb first (day_number t d) h, and-false _)))

    -- a day before `until`: the volumes of its open periods
    pub day-stored : first ≤ day_number t d → day_number t d < until → (part : List ℤ) → length part ≡ periods_at t.codes d - closed_in t d
        → ((k : ℕ) → k < periods_at t.codes d - closed_in t d → get_or part k (pos 0) ≡ volumes (periods_at t.codes d) (suc (closed_in t d + k)))
        → sets side (base_of n slot d + closed_in t d) part ≡ map_at (only (λ (k : ℕ). eqb (day_at n k) d) (slot_rule t slot first until volumes)) side
    day-stored low high part size given =
        let base = base_of n slot d in
        let from = closed_in t d in
        let periods = periods_at t.codes d in
        sets-map side (base + from) part (pos 0)
        ∙ map_at-same _ _ side the_mark
        (λ j w.
        let old = get_or side j the_mark in
        sym (day-rule j old ∙ rw (le-leb first (day_number t d) low, lt-ltb (day_number t d) until high, and-true (leb (base + from) j && ltb j (base + from + (periods - from))))
        (rw size
        (on (leb (base + from) j && ltb j (base + from + (periods - from)))
        (λ q.
        let after = leb-true (base + from) j (and_left (leb (base + from) j) (ltb j (base + from + (periods - from))) q) in
        let before = ltb-true j (base + from + (periods - from)) (and_right (leb (base + from) j) (ltb j (base + from + (periods - from))) q) in
        let z : from + (j - (base + from)) ≡ j - base = omega arith in
        rw q (sym (given (j - (base + from)) (omega arith) ∙ ap (λ (k : ℕ). volumes periods (suc k)) z)))
        (λ q. rw q)))))

    -- a day from `until` on
    pub day-blanked : first ≤ day_number t d → until ≤ day_number t d
        → sets side (base_of n slot d + closed_in t d) (replicate (periods_at t.codes d - closed_in t d) the_mark)
        ≡ map_at (only (λ (k : ℕ). eqb (day_at n k) d) (slot_rule t slot first until volumes)) side
    day-blanked low high =
        let base = base_of n slot d in
        let from = closed_in t d in
        let periods = periods_at t.codes d in
        let size : length (replicate (periods - from) the_mark) ≡ periods - from = length-replicate (periods - from) the_mark in
        sets-map side (base + from) (replicate (periods - from) the_mark) (pos 0)
        ∙ map_at-same _ _ side the_mark
        (λ j w.
        let old = get_or side j the_mark in
        sym (day-rule j old ∙ rw (le-leb first (day_number t d) low, le-ltb (day_number t d) until high, and-true (leb (base + from) j && ltb j (base + from + (periods - from))))
        (rw size
        (on (leb (base + from) j && ltb j (base + from + (periods - from)))
        (λ q.
        let after = leb-true (base + from) j (and_left (leb (base + from) j) (ltb j (base + from + (periods - from))) q) in
        let before = ltb-true j (base + from + (periods - from)) (and_right (leb (base + from) j) (ltb j (base + from + (periods - from))) q) in
        rw q (sym (get_or-replicate (periods - from) (j - (base + from)) the_mark (pos 0) (omega arith))))
        (λ q. rw q)))))

-- ---- a slot, day by day

module _ (n : ℕ) (f : ℕ → ℤ → ℤ) (side : List ℤ) where
  pub days-none : side ≡ map_at (only (λ (j : ℕ). ltb (day_at n j) 0) f) side
  days-none = only_none f side (λ (j : ℕ). ltb (day_at n j) 0) (λ j. le-ltb (day_at n j) 0 (omega arith))

  pub days-more : (d : ℕ) (l1 l2 : List ℤ) → l1 ≡ map_at (only (λ (j : ℕ). ltb (day_at n j) d) f) side
      → l2 ≡ map_at (only (λ (j : ℕ). eqb (day_at n j) d) f) l1 → l2 ≡ map_at (only (λ (j : ℕ). ltb (day_at n j) (d + 1)) f) side
  days-more d l1 l2 e1 e2 =
      only-more f side (λ (j : ℕ). ltb (day_at n j) d) (λ (j : ℕ). eqb (day_at n j) d) (λ (j : ℕ). ltb (day_at n j) (d + 1)) l1 l2 e1 e2
      (λ j h. below-not-equal (day_at n j) d h)
      (λ j. below_next (day_at n j) d)

-- when every day is done
module _ (t : Time) (n slot first until : ℕ) (volumes : ℕ → ℕ → ℤ) (e : days t ≡ n) where
  rule-past : (j : ℕ) (old : ℤ) → ltb (day_at n j) n ≡ false → slot_rule t slot first until volumes j old ≡ old
  unfolding slot_rule is_period_at
  rule-past j old h = rw (e, h, and-false (eqb (slot_at n j) slot))

  pub days-all : (side : List ℤ) → map_at (only (λ (j : ℕ). ltb (day_at n j) n) (slot_rule t slot first until volumes)) side ≡ map_at (slot_rule t slot first until volumes) side
  days-all side = only-all (slot_rule t slot first until volumes) side (λ (j : ℕ). ltb (day_at n j) n) rule-past
