-- What `contains` answers at a range of whole numbers as it is written, and at a range that is the same either side of 0.
use Rattle.std.proofs.Common.{◌≡◌, ℕ, ℤ, pos, negsuc, false, ◌&&◌, refl, ◌∙◌, arith, lt-ltb, le-ltb, le-leb}
use Rattle.std.proofs.lemmas.Bool.{lt-leb}
use Rattle.std.specs.Prelude.{Some}
use Rattle.std.specs.Ordering.{int_cmp, partial_le}
use Rattle.std.specs.Range.{range_inclusive_start, range_inclusive_end, range_inclusive_exhausted, range_inclusive_contains}
use Rattle.std.specs.declared.ops.RangeInclusive.{RangeInclusive}
use lib.IntN.{neg_ℤ}
use lib.Signed.{le_z}
use Rattle.words.specs.Tests.{within}
use Rattle.laws.proofs.Cases.{by-lt}
use Rattle.laws.proofs.Whole.{range-within}

pub no-more : (a b : ℤ) → partial_le (λ (x y : ℤ). Some (int_cmp x y)) a b ≡ le_z a b
no-more (pos a) (pos b) =
    by-lt a b
    (λ l. rw (lt-ltb a b l, le-leb a b (omega arith)))
    (λ l. by-lt b a
    (λ g. rw (le-ltb a b l, lt-ltb b a g, lt-leb a b g))
    (λ g. rw (le-ltb a b l, le-ltb b a g, le-leb a b g)))
no-more (pos a) (negsuc b) = refl
no-more (negsuc a) (pos b) = refl
no-more (negsuc a) (negsuc b) =
    by-lt b a
    (λ l. rw (lt-ltb b a l, le-leb b a (omega arith)))
    (λ l. by-lt a b
    (λ g. rw (le-ltb b a l, lt-ltb a b g, lt-leb b a g))
    (λ g. rw (le-ltb b a l, le-ltb a b g, le-leb b a g)))

pub in-range : (s : RangeInclusive ℤ) (a b z : ℤ) → range_inclusive_start s ≡ a → range_inclusive_end s ≡ b → range_inclusive_exhausted s ≡ false → range_inclusive_contains (λ (x y : ℤ). Some (int_cmp x y)) s z ≡ (le_z a z && le_z z b)
in-range s a b z p q r = rw (p, q, r, no-more a z, no-more z b)

pub in-range-within : (s : RangeInclusive ℤ) (m : ℕ) (z : ℤ) → range_inclusive_start s ≡ neg_ℤ (pos m) → range_inclusive_end s ≡ pos m → range_inclusive_exhausted s ≡ false → range_inclusive_contains (λ (x y : ℤ). Some (int_cmp x y)) s z ≡ within m z
in-range-within s m z p q r = in-range s (neg_ℤ (pos m)) (pos m) z p q r ∙ range-within m z
