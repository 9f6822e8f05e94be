-- A loop that gathers f 0 + .. + f (n - 1) in an `i64`, where each term is at most b in size.
use mathlib.Core.Path.{◌≡◌, ◌∙◌, sym}
use Prim.Native.Nat.{ℕ, ◌+◌, ◌*◌, ◌^◌, ◌≤◌, ◌<◌}
use native.Mathlib.Nat.{lt_of_le_of_lt}
use native.Mathlib.Omega.{arith}
use lib.IntN.{ℤ, pos, nat_abs, ◌+ℤ◌}
use mir.Facts.{to_z-of_z}
use mir.Syntax.{w64}
use mir.Val.{SFits, to_z, of_z}
use Rattle.words.specs.Below.{sum_belowℤ}
use Rattle.laws.proofs.Machine.{abs-fits}
use Rattle.laws.proofs.Sums.{sum-none, sum_more}
use Rattle.laws.proofs.Whole.{abs-add}

-- what the local holds after n turns
pub record Gathered (n b : ℕ) (f : ℕ → ℤ) (local : ℤ) : Type 0 where
  pub is : local ≡ sum_belowℤ n f
  pub bound : nat_abs (sum_belowℤ n f) ≤ n * b

pub gathered_none : (b : ℕ) (f : ℕ → ℤ) → Gathered 0 b f (pos 0)
gathered_none b f = record { is = sym (sum-none f); bound = rw (sum-none f) (omega arith) }

module _ {n b : ℕ} {f : ℕ → ℤ} {local : ℤ} (r : ℤ) (g : Gathered n b f local) (e : r ≡ f n) (small : nat_abs (f n) ≤ b) (h : (n + 1) * b < 2 ^ 63) where
  more-bound : nat_abs (sum_belowℤ (n + 1) f) ≤ (n + 1) * b
  more-bound = rw (sum_more n f) (omega (arith, abs-add (sum_belowℤ n f) (f n), g.bound))

  term-back : to_z w64 (of_z w64 r) ≡ r
  term-back = to_z-of_z {w = w64} (abs-fits (rw e (lt_of_le_of_lt small (omega arith))))

  more-is : local +ℤ to_z w64 (of_z w64 r) ≡ sum_belowℤ (n + 1) f
  more-is = (λ i. g.is i +ℤ (term-back ∙ e) i) ∙ sym (sum_more n f)

  -- one more term: the sum fits, and the local holds it
  pub gathered-fits : SFits w64 (local +ℤ to_z w64 (of_z w64 r))
  gathered-fits = rw more-is (abs-fits (lt_of_le_of_lt more-bound h))

  pub gathered-more : Gathered (n + 1) b f (to_z w64 (of_z w64 (local +ℤ to_z w64 (of_z w64 r))))
  gathered-more = record { is = to_z-of_z {w = w64} gathered-fits ∙ more-is; bound = more-bound }
