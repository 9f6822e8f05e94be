-- The array that a loop fills from the front only as far as there is something to fill it with: past that every place keeps what it began with.
use mathlib.Core.Path.{◌≡◌, sym}
use Prim.Native.Nat.{ℕ, ◌≤◌, min}
use native.Mathlib.Omega.{arith}
use lib.Dec.{ltb}
use mathlib.Core.Bool.{cond}
use borrow.Author.Tests.{lt-ltb, le-ltb}
use Rattle.words.specs.Lists.{build}
use Rattle.laws.proofs.Builds.{build-same, filled}
use Rattle.laws.proofs.Cases.{by-lt}

-- a loop to m, or to the array's end where that is nearer
pub filled-front : {A : Type 0} (n : ℕ) (f : ℕ → A) (z : A) (m : ℕ) → ((k : ℕ) → m ≤ k → f k ≡ z) → filled n f z (min m n) ≡ build n f
unfolding filled
filled-front n f z m past =
    build-same n (λ (k : ℕ). cond (ltb k (min m n)) (f k) z) f
    (λ k h.
    by-lt k m
    (λ l. rw (lt-ltb k (min m n) (omega arith)))
    (λ l. rw (le-ltb k (min m n) (omega arith)) (sym (past k l))))
