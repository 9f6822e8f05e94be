-- A side's table tested by slots, days and periods is the table tested at every place.
use mathlib.Core.Bool.{Bool, true, false, not, ◌&&◌, ◌||◌}
use mathlib.Core.List.{List}
use mathlib.Core.Path.{◌≡◌, refl, sym, ap, ap₂, ◌∙◌}
use Prim.Native.Nat.{ℕ, suc, ◌+◌, ◌-◌, ◌*◌, ◌≤◌, ◌<◌}
use native.Mathlib.Nat.{add-zero, add_assoc}
use native.Mathlib.Omega.{arith}
use lib.Dec.{leb, ltb, eqb}
use lib.IntN.{ℤ}
use lib.ListN.{length, get_or}
use borrow.Author.Tests.{lt-ltb, le-ltb, le-leb, leb-false, ne_eqb}
use Rattle.words.specs.Below.{every_below}
use Rattle.words.specs.Tests.{within}
use Rattle.laws.proofs.Below.{every-none, every-ext, every-add, every-runs}
use Rattle.laws.proofs.Builds.{length-build}
use Rattle.laws.proofs.Cases.{on, by-eq, and-false, and-true, or-false}
use Rattle.laws.proofs.Lists.{every_at-below}
use Rattle.meaning.specs.Time.{periods_of_code, periods_at, is_period_at}
use Rattle.meaning.specs.Ledgers.{contracts, the_mark, index, places}
use Rattle.meaning.specs.Soundness.{place_right, table_right}
use Rattle.meaning.proofs.Clock.{periods-le}
use Rattle.ledger.proofs.PlaceLaws.{first-is, slot-here, day-here, period-here}
use Rattle.clock.specs.Structs.{time_of}
use Rattle.clock.specs.declared.Clock.{Clock}
use Rattle.ledger_soundness.specs.Parts.{blank, right, DayLength, row_right, days_right}
use Rattle.ledger_soundness.proofs.Runs.{row_ends}

-- a day has at least 46 periods or none
periods-none : (codes : List ℕ) (d : ℕ) → periods_at codes d < 46 → periods_at codes d ≡ 0
unfolding periods_at periods_of_code
periods-none codes d h =
    let c = get_or codes d 0 in
    on (eqb c 0) (λ e. absurd (omega (arith, rw e at h))) (λ e. rw e
    (on (eqb c 1) (λ q. absurd (omega (arith, rw (e, q) at h))) (λ q. rw q
    (on (eqb c 2) (λ w. absurd (omega (arith, rw (e, q, w) at h))) (λ w. rw w)))))

-- an entry that is not 0 is above 0
pub held_test : (e : ℕ) → ltb 0 e ≡ not (eqb e 0)
held_test e =
    by-eq e 0
    (λ q. rw q)
    (λ q. lt-ltb 0 e (omega arith) ∙ sym (ap not (ne_eqb e 0 q)))

-- a place of a slot's day, by whether the slot is held and the period is one of the day
module _ (codes held : List ℕ) (s : ℕ) {d p : ℕ} (hd : d < length codes) (hp : p < 50) (v : ℤ) where
  period-test : is_period_at codes d (suc p) ≡ ltb p (periods_at codes d)
  unfolding is_period_at
  period-test = rw (lt-ltb d (length codes) hd, le-leb 1 (suc p) (omega arith))

  place_here : place_right contracts codes held (index (length codes) s d 1 + p) v
      ≡ blank v || (within 99999999 v && ltb 0 (get_or held s 0) && ltb p (periods_at codes d))
  unfolding place_right
  place_here = rw (slot-here (length codes) s hd hp, day-here (length codes) s hd hp, period-here (length codes) s hd hp, period-test)

  place-unheld : ltb 0 (get_or held s 0) ≡ false → place_right contracts codes held (index (length codes) s d 1 + p) v ≡ blank v
  place-unheld e = place_here ∙ rw (e, and-false (within 99999999 v)) (or-false (blank v))

  place-past : periods_at codes d ≤ p → place_right contracts codes held (index (length codes) s d 1 + p) v ≡ blank v
  place-past h = place_here ∙ rw (le-ltb p (periods_at codes d) h, and-false (within 99999999 v && ltb 0 (get_or held s 0))) (or-false (blank v))

  place-held : ltb 0 (get_or held s 0) ≡ true → p < periods_at codes d → place_right contracts codes held (index (length codes) s d 1 + p) v ≡ right v
  unfolding right
  place-held e h = place_here ∙ rw (e, lt-ltb p (periods_at codes d) h, and-true (within 99999999 v), and-true (within 99999999 v))

-- the periods of a day, by its code
pub day-length : (codes : List ℕ) (d : ℕ) → DayLength (periods_at codes d)
day-length codes d = record { most = periods-le codes d; least = periods-none codes d }

-- a held slot's day as it is scanned: all places, and the last four
pub row-held : (side : List ℤ) (base n : ℕ) → 46 ≤ n → n ≤ 50
    → every_below 50 (λ (k : ℕ). right (get_or side (base + k) the_mark)) && every_below 4 (λ (k : ℕ). ltb k (n - 46) || blank (get_or side (base + 46 + k) the_mark))
    ≡ row_right side base n true
unfolding row_right right
row-held side base n lo hi =
    let f : ℕ → Bool = λ k. right (get_or side (base + k) the_mark) in
    let g : ℕ → Bool = λ k. blank (get_or side (base + k) the_mark) in
    ap (λ (b : Bool). every_below 50 f && b)
    (every-ext 4 (λ (k : ℕ). ltb k (n - 46) || blank (get_or side (base + 46 + k) the_mark)) (λ (k : ℕ). ltb k (n - 46) || g (46 + k))
    (λ k l. ap (λ (j : ℕ). ltb k (n - 46) || blank (get_or side j the_mark)) (add_assoc base 46 k)))
    ∙ row_ends f g n lo hi (λ k e. rw e)
    ∙ ap (λ (b : Bool). every_below n f && b)
    (every-ext (50 - n) (λ (k : ℕ). g (n + k)) (λ (k : ℕ). blank (get_or side (base + n + k) the_mark))
    (λ k l. ap (λ (j : ℕ). blank (get_or side j the_mark)) (sym (add_assoc base n k))))

-- the day of an unheld slot, and a day without periods
pub row-blank : (side : List ℤ) (base n : ℕ) (held : Bool) → DayLength n → held && leb 46 n ≡ false
    → every_below 50 (λ (k : ℕ). blank (get_or side (base + k) the_mark)) ≡ row_right side base n held
unfolding row_right
row-blank side base n false h e = refl
row-blank side base n true h e =
    let q : n ≡ 0 = h.least (leb-false 46 n e) in
    rw (q, every-none) (every-ext 50 (λ (k : ℕ). blank (get_or side (base + k) the_mark)) (λ (k : ℕ). blank (get_or side (base + 0 + k) the_mark)) (λ k l. rw add-zero))

-- a slot's day
row_here : (side : List ℤ) (codes held : List ℕ) (s d : ℕ) → d < length codes
    → every_below 50 (λ (p : ℕ). place_right contracts codes held (index (length codes) s d 1 + p) (get_or side (index (length codes) s d 1 + p) the_mark))
    ≡ row_right side (index (length codes) s d 1) (periods_at codes d) (ltb 0 (get_or held s 0))
unfolding row_right
row_here side codes held s d hd =
    let base = index (length codes) s d 1 in
    let n = periods_at codes d in
    let few = periods-le codes d in
    let f : ℕ → Bool = λ p. place_right contracts codes held (base + p) (get_or side (base + p) the_mark) in
    on (ltb 0 (get_or held s 0))
    (λ e.
    let split : n + (50 - n) ≡ 50 = omega arith in
    rw e
    (sym (ap (λ (k : ℕ). every_below k f) split)
    ∙ every-add n (50 - n) f
    ∙ ap₂ ◌&&◌
    (every-ext n f (λ (k : ℕ). right (get_or side (base + k) the_mark)) (λ k h. place-held codes held s hd (omega arith) (get_or side (base + k) the_mark) e h))
    (every-ext (50 - n) (λ (k : ℕ). f (n + k)) (λ (k : ℕ). blank (get_or side (base + n + k) the_mark))
    (λ k h. place-past codes held s hd (omega arith) (get_or side (base + (n + k)) the_mark) (omega arith) ∙ ap (λ (j : ℕ). blank (get_or side j the_mark)) (sym (add_assoc base n k))))))
    (λ e. rw e (every-ext 50 f (λ (k : ℕ). blank (get_or side (base + k) the_mark)) (λ k h. place-unheld codes held s hd h (get_or side (base + k) the_mark) e)))

-- the whole table
table_here : (side : List ℤ) (codes held : List ℕ) → length side ≡ places (length held) (length codes)
    → table_right contracts codes held side
    ≡ every_below (length held) (λ (s : ℕ). every_below (length codes) (λ (d : ℕ). row_right side (index (length codes) s d 1) (periods_at codes d) (ltb 0 (get_or held s 0))))
unfolding table_right
table_here side codes held e =
    let n = length codes in
    let f : ℕ → Bool = λ j. place_right contracts codes held j (get_or side j the_mark) in
    every_at-below (place_right contracts codes held) side the_mark
    ∙ ap (λ (k : ℕ). every_below k f) e
    ∙ every-runs (length held * n) 50 f
    ∙ every-runs (length held) n (λ (a : ℕ). every_below 50 (λ (b : ℕ). f (a * 50 + b)))
    ∙ every-ext (length held) (λ (s : ℕ). every_below n (λ (d : ℕ). every_below 50 (λ (b : ℕ). f ((s * n + d) * 50 + b))))
    (λ (s : ℕ). every_below n (λ (d : ℕ). row_right side (index n s d 1) (periods_at codes d) (ltb 0 (get_or held s 0))))
    (λ s hs. every-ext n (λ (d : ℕ). every_below 50 (λ (b : ℕ). f ((s * n + d) * 50 + b))) (λ (d : ℕ). row_right side (index n s d 1) (periods_at codes d) (ltb 0 (get_or held s 0))) (λ d hd. ap (λ (first : ℕ). every_below 50 (λ (b : ℕ). f (first + b))) (first-is n s d) ∙ row_here side codes held s d hd))

-- of a clock's days
pub table-days : (side : List ℤ) (held : List ℕ) (c : Clock) → length side ≡ places (length held) c.days
    → table_right contracts (time_of c).codes held side ≡ every_below (length held) (λ (s : ℕ). days_right side s (ltb 0 (get_or held s 0)) c)
unfolding days_right
table-days side held c e =
    let l : length (time_of c).codes ≡ c.days = length-build c.days _ in
    rw l at (table_here side (time_of c).codes held (e ∙ ap (places (length held)) (sym l)))
