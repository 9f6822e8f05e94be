-- One computed test over all numbers below a bound, carried to each of them.
use mathlib.Core.Bool.{true}
use mathlib.Core.Path.{◌≡◌}
use Prim.Native.Nat.{ℕ, ◌≤◌, ◌<◌}
use borrow.Author.Tests.{eqb-true, leb-true, ltb-true}
use Rattle.words.specs.Tests.{◌=?◌, ◌≤?◌, ◌<?◌}
use Rattle.words.specs.Below.{every_below}
use Rattle.laws.proofs.Below.{every-at}

module _ (n : ℕ) (f g : ℕ → ℕ) where
  pub same-below : every_below n (λ (k : ℕ). f k =? g k) ≡ true → (k : ℕ) → k < n → f k ≡ g k
  same-below t k h = eqb-true (f k) (g k) (every-at n (λ (k : ℕ). f k =? g k) t k h)

  pub le_below : every_below n (λ (k : ℕ). f k ≤? g k) ≡ true → (k : ℕ) → k < n → f k ≤ g k
  le_below t k h = leb-true (f k) (g k) (every-at n (λ (k : ℕ). f k ≤? g k) t k h)

  pub lt-below : every_below n (λ (k : ℕ). f k <? g k) ≡ true → (k : ℕ) → k < n → f k < g k
  lt-below t k h = ltb-true (f k) (g k) (every-at n (λ (k : ℕ). f k <? g k) t k h)
