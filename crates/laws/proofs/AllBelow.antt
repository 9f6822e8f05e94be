-- What `all` tests of a list's front, as a test of the numbers below its length.
use mathlib.Core.Bool.{Bool, ◌&&◌}
use mathlib.Core.List.{List, [], ◌∷◌}
use mathlib.Core.Path.{◌≡◌, refl, sym, ap, ◌∙◌}
use Prim.Native.Nat.{ℕ, zero, suc, ◌≤◌}
use native.Mathlib.Omega.{arith}
use lib.ListN.{length, take, get_or}
use Rattle.std.specs.List.{list_all}
use Rattle.words.specs.Below.{every_below}
use Rattle.laws.proofs.Below.{every_front}

module _ {A : Type 0} (f : A → Bool) (d : A) where
  -- `xs[..n].iter().all(f)`
  pub all-below : (n : ℕ) (xs : List A) → n ≤ length xs → list_all f (take n xs) ≡ every_below n (λ (k : ℕ). f (get_or xs k d))
  unfolding every_below
  all-below zero xs h = refl
  all-below (suc n) [] h = absurd (omega arith)
  all-below (suc n) (x ∷ xs) h = ap (λ (b : Bool). f x && b) (all-below n xs (omega arith)) ∙ sym (every_front n (λ (k : ℕ). f (get_or (x ∷ xs) k d)))
