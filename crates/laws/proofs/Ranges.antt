-- What `contains` answers at a range of numbers as it is written: whether the number is between its ends.
use Rattle.std.proofs.Common.{◌≡◌, ℕ, false, arith, eq-eqb, ne_eqb, lt-ltb, le-ltb, le-leb}
use Rattle.std.proofs.lemmas.Bool.{lt-leb}
use Rattle.std.specs.Prelude.{Some}
use Rattle.std.specs.Ordering.{nat_cmp, partial_le}
use Rattle.std.specs.Range.{range_inclusive_start, range_inclusive_end, range_inclusive_exhausted, range_inclusive_contains}
use Rattle.std.specs.declared.ops.RangeInclusive.{RangeInclusive}
use Rattle.words.specs.Tests.{◌≤?◌, between}
use Rattle.laws.proofs.Cases.{by-lt, by-eq}

pub at-most : (a b : ℕ) → partial_le (λ (x y : ℕ). Some (nat_cmp x y)) a b ≡ a ≤? b
at-most a b =
    by-lt a b
    (λ l. rw (lt-ltb a b l, le-leb a b (omega arith)))
    (λ l. by-eq a b
    (λ e. rw (le-ltb a b l, eq-eqb a b e, le-leb a b (omega arith)))
    (λ e. rw (le-ltb a b l, ne_eqb a b e, lt-leb a b (omega arith))))

pub contained : (s : RangeInclusive ℕ) (a b x : ℕ) → range_inclusive_start s ≡ a → range_inclusive_end s ≡ b → range_inclusive_exhausted s ≡ false → range_inclusive_contains (λ (x y : ℕ). Some (nat_cmp x y)) s x ≡ between a b x
contained s a b x p q r = rw (p, q, r, at-most a x, at-most x b)
