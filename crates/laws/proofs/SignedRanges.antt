-- What `contains` answers at a range of whole numbers from -m to m as it is written: whether the number is within m.
use Rattle.std.proofs.Common.{◌≡◌, ℕ, false, ltb, leb, ℤ, pos, negsuc, neg_ℤ, refl, arith, cond, Less, Equal, Greater, lt-ltb, le-ltb, le-leb}
use Rattle.std.proofs.lemmas.Bool.{lt-leb}
use Rattle.std.specs.Prelude.{Some}
use Rattle.std.specs.Ordering.{is_le, int_cmp, partial_le}
use Rattle.std.specs.Range.{range_inclusive_start, range_inclusive_end, range_inclusive_exhausted, range_inclusive_contains}
use Rattle.std.specs.declared.ops.RangeInclusive.{RangeInclusive}
use lib.Signed.{le_z}
use Rattle.words.specs.Tests.{within}
use Rattle.laws.proofs.Cases.{by-lt}
use Rattle.laws.proofs.Whole.{range-within}

ordered : (a b : ℕ) → is_le (cond (ltb a b) Less (cond (ltb b a) Greater Equal)) ≡ leb a b
ordered a b =
    by-lt a b
    (λ l. rw (lt-ltb a b l, le-leb a b (omega arith)))
    (λ l. by-lt b a
    (λ m. rw (le-ltb a b l, lt-ltb b a m, lt-leb a b m))
    (λ m. rw (le-ltb a b l, le-ltb b a m, le-leb a b m)))

pub at-most-signed : (a b : ℤ) → partial_le (λ (x y : ℤ). Some (int_cmp x y)) a b ≡ le_z a b
at-most-signed (pos a) (pos b) = ordered a b
at-most-signed (pos a) (negsuc b) = refl
at-most-signed (negsuc a) (pos b) = refl
at-most-signed (negsuc a) (negsuc b) = ordered b a

pub contained-within : (s : RangeInclusive ℤ) (m : ℕ) (z : ℤ) → range_inclusive_start s ≡ neg_ℤ (pos m) → range_inclusive_end s ≡ pos m → range_inclusive_exhausted s ≡ false
    → range_inclusive_contains (λ (x y : ℤ). Some (int_cmp x y)) s z ≡ within m z
contained-within s m z p q r = rw (p, q, r, at-most-signed (neg_ℤ (pos m)) z, at-most-signed z (pos m)) (range-within m z)
