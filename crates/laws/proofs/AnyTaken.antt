-- `.take(n).any(..)` over an array that is longer or shorter: past its end the test fails, or there is nothing to test.
use mathlib.Core.Bool.{Bool, false, ◌||◌}
use mathlib.Core.List.{List, [], ◌∷◌}
use mathlib.Core.Path.{◌≡◌, sym, ap, ◌∙◌}
use Prim.Native.Nat.{ℕ, zero, suc, ◌≤◌, ◌<◌}
use native.Mathlib.Omega.{arith}
use lib.ListN.{length, get_or, get_or-eq_default, take}
use Rattle.std.specs.List.{list_any}
use Rattle.words.specs.Below.{some_below}
use Rattle.laws.proofs.Below.{some-all, some-front, some-none}

pub any-taken : {A : Type 0} (test : A → Bool) (z : A) (n : ℕ) (xs : List A) → ((k : ℕ) → length xs ≤ k → k < n → test z ≡ false)
    → list_any test (take n xs) ≡ some_below n (λ (k : ℕ). test (get_or xs k z))
any-taken test z zero xs h = sym (some-none (λ (k : ℕ). test (get_or xs k z)))
any-taken test z (suc n) [] h =
    sym (some-all (suc n) (λ (k : ℕ). test (get_or [] k z)) (λ k l. ap test (get_or-eq_default [] z {n = k} (omega arith)) ∙ h k (omega arith) l))
any-taken test z (suc n) (x ∷ xs) h =
    ap (λ (b : Bool). test x || b) (any-taken test z n xs (λ k l m. h (suc k) (omega arith) (omega arith)))
    ∙ sym (some-front n (λ (k : ℕ). test (get_or (x ∷ xs) k z)))
