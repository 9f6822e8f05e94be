-- The parts above and below zero, their bounds, and the figures that are given.
use mathlib.Core.Bool.{Bool, true, false}
use mathlib.Core.List.{List}
use mathlib.Core.Logic.{◌≢◌}
use mathlib.Core.Path.{◌≡◌, refl, sym, ap, ◌∙◌}
use Prim.Native.Nat.{ℕ, zero, suc, ◌+◌, ◌≤◌}
use native.Mathlib.Nat.{le_refl}
use native.Mathlib.Omega.{arith}
use lib.Dec.{eqb}
use lib.IntN.{ℤ, pos, negsuc, neg_ℤ, nat_abs, ◌-ℤ◌}
use lib.ListN.{length, get_or}
use mir.Syntax.{w64}
use mir.Val.{SFits}
use borrow.Author.Tests.{lt-ltb, ne_eqb}
use Rattle.std.specs.Int.{int_max}
use Rattle.laws.proofs.Machine.{abs-fits}
use Rattle.laws.proofs.Whole.{abs_neg, abs-add, zero-less}
use Rattle.laws.proofs.Sums.{sum-ext, sum-zero, sum_bound}
use Rattle.words.specs.Below.{sum_belowℤ}
use Rattle.words.specs.Rules.{answer}
use Rattle.meaning.specs.Time.{periods_at, day_of}
use Rattle.meaning.specs.Books as Meaning
use Rattle.meaning.specs.Authorisations.{Authorisation, in_pair}
use Rattle.meaning.specs.Ledgers.{contracts, index, origin_in}
use Rattle.meaning.specs.Totals.{counted, above_zero, below_zero, day_sum, sold, bought, figures_rules, figures}
use Rattle.meaning.proofs.Clock.{periods-le}
use Rattle.meaning.proofs.Counted.{counted-small}
use Rattle.meaning.proofs.Figures.{zero-positive}
use Rattle.meaning.proofs.Sound.{parts}
use Rattle.book.specs.declared.Book.{Book}
use Rattle.book.specs.Structs.{rows_in, book_of}
use Rattle.position.proofs.TotalLaws.{Asked}
use Rattle.position.proofs.DayLaws.{slots-few, counted-from, foreign-none}
use Rattle.position.specs.Counting.{DayAsked, counted_at, part_of, slot_part, figures_for}
use Rattle.position.specs.Totals.{no_figures, figured}

-- ---- what is below zero, negated; and what is above

pub above-max : (z : ℤ) → int_max z (pos 0) ≡ above_zero z
above-max (pos zero) = refl
above-max (pos (suc n)) = rw (lt-ltb 0 (suc n) (omega arith))
above-max (negsuc n) = refl

negated-max : (z : ℤ) → int_max (neg_ℤ z) (pos 0) ≡ below_zero z
negated-max (pos zero) = refl
negated-max (pos (suc n)) = refl
negated-max (negsuc n) = rw (lt-ltb 0 (suc n) (omega arith))

pub below-max : (z : ℤ) → int_max (pos 0 -ℤ z) (pos 0) ≡ below_zero z
below-max z = ap (λ (y : ℤ). int_max y (pos 0)) (zero-less z) ∙ negated-max z

pub part_small : (below : Bool) (z : ℤ) → nat_abs (part_of below z) ≤ nat_abs z
unfolding part_of
part_small true (pos n) = omega arith
part_small true (negsuc n) = le_refl (suc n)
part_small false (pos n) = le_refl n
part_small false (negsuc n) = omega arith

-- ---- a slot's parts over the periods of a day

pub slot-parts : (b : Book) (held : List ℕ) (side1 side2 : List ℤ) (account d slot periods : ℕ) (below : Bool) (origin : Authorisation) (first : ℕ)
    → origin ≡ origin_in (rows_in b.setup) (get_or held slot 0) → first ≡ index b.setup.days slot d 1
    → slot_part below origin account side1 side2 first periods ≡ sum_belowℤ periods (λ (p : ℕ). part_of below (counted (book_of b held side1 side2) account d (suc p) slot))
unfolding slot_part
slot-parts b held side1 side2 account d slot periods below origin first o f =
    sum-ext periods (λ (p : ℕ). part_of below (counted_at origin account side1 side2 (first + p))) (λ (p : ℕ). part_of below (counted (book_of b held side1 side2) account d (suc p) slot))
    (λ p h. ap (part_of below) (counted-from b held side1 side2 account d slot origin first o f p))

part_none : (below : Bool) → part_of below (pos 0) ≡ pos 0
unfolding part_of
part_none true = refl
part_none false = refl

-- of an account that is not of the pair
pub foreign-parts : (origin : Authorisation) (account : ℕ) (side1 side2 : List ℤ) (first periods : ℕ) (below : Bool) → in_pair origin account ≡ false
    → pos 0 ≡ slot_part below origin account side1 side2 first periods
unfolding slot_part
foreign-parts origin account side1 side2 first periods below e =
    sym (sum-zero periods (λ (p : ℕ). part_of below (counted_at origin account side1 side2 (first + p)))
    (λ p h. ap (part_of below) (foreign-none origin account side1 side2 (first + p) e) ∙ part_none below))

-- ---- a day's sums

-- in a sound book they are far below 2 ^ 53
pub day-sum-small : (b : Book) (held : List ℕ) (side1 side2 : List ℤ) (account d : ℕ) → DayAsked (book_of b held side1 side2) d → (below : Bool)
    → nat_abs (day_sum (part_of below) (book_of b held side1 side2) account d) ≤ 1279999987200
unfolding day_sum
day-sum-small b held side1 side2 account d a below =
    let whole = book_of b held side1 side2 in
    let periods = periods_at whole.setting.time.codes d in
    let part : ℕ → ℕ → ℤ = λ slot p. part_of below (counted whole account d (suc p) slot) in
    let small : (slot p : ℕ) → nat_abs (part slot p) ≤ 99999999 = λ slot p.
    omega (arith, part_small below (counted whole account d (suc p) slot), counted-small whole d (suc p) slot (parts whole a.is-sound) account) in
    let of-slot : (slot : ℕ) → nat_abs (sum_belowℤ periods (part slot)) ≤ 4999999950 = λ slot.
    omega (arith, periods-le whole.setting.time.codes d, sum_bound periods 99999999 (part slot) (λ p h. small slot p)) in
    omega (arith, slots-few b held side1 side2 d a, sum_bound (length held) 4999999950 (λ slot. sum_belowℤ periods (part slot)) (λ slot h. of-slot slot))

-- ---- differences

pub abs-difference : (a b : ℤ) → nat_abs (a -ℤ b) ≤ nat_abs a + nat_abs b
abs-difference a b = omega (arith, abs-add a (neg_ℤ b), abs_neg b)

pub negated_fits : (z : ℤ) → nat_abs z ≤ 2147483648 → SFits w64 (pos 0 -ℤ z)
negated_fits z h = rw (zero-less z) (abs-fits {w = w64} {z = neg_ℤ z} (omega (arith, abs_neg z)))

pub net-fits : (a b : ℤ) → nat_abs a ≤ 27487790694400 → nat_abs b ≤ 27487790694400 → SFits w64 (a -ℤ b)
net-fits a b h k = abs-fits {w = w64} {z = a -ℤ b} (omega (arith, abs-difference a b))

-- ---- what the question gives

module _ (b : Meaning.Book contracts) (account D : ℕ) where
  pub figures-refused : (n : ℕ) → n ≡ answer (figures_rules b account D) → n ≢ 0 → record { answer = n; day = no_figures } ≡ figured b account D
  unfolding figured figures
  figures-refused n e z =
      let r : eqb (answer (figures_rules b account D)) 0 ≡ false = ne_eqb (answer (figures_rules b account D)) 0 (λ q. z (e ∙ q)) in
      rw (e, r, zero-positive)

  pub figures-given : Asked b account D
      → record { answer = 0; day = figures_for (day_sum (part_of false) b account (day_of b.setting.time D)) (day_sum (part_of true) b account (day_of b.setting.time D)) } ≡ figured b account D
  unfolding answer figures_rules figured figures figures_for sold bought part_of
  figures-given a = rw (a.is-sound, a.has-account, a.has-day)
