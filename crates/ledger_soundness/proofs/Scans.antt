-- A scan without a branch: a flag that every element is joined to says whether each one passes.
use mathlib.Core.Bool.{Bool, true, ◌&&◌}
use mathlib.Core.List.{List, [], ◌∷◌}
use mathlib.Core.Path.{◌≡◌, sym, ap, ap₂, ◌∙◌}
use Prim.Native.Nat.{ℕ, suc, ◌+◌}
use native.Mathlib.Nat.{zero-add}
use native.Mathlib.Numerals.{add-one}
use native.Mathlib.Omega.{arith}
use lib.Dec.{eqb}
use lib.IntN.{ℤ}
use lib.ListN.{length, get_or}
use mir.Syntax.{w32}
use mir.Val.{SFits, of_z}
use Rattle.std.specs.List.{fold, enumerate_from}
use Rattle.words.specs.Below.{every_below}
use Rattle.laws.proofs.Below.{every-none, every_front, every-ext}
use Rattle.words.specs.Tests.{sameℤ}
use Rattle.laws.proofs.Cases.{and-true, and_assoc, not-not}
use Rattle.laws.proofs.Machine.{eqb-least}
use Rattle.meaning.specs.Ledgers.{the_mark}
use Rattle.ledger_soundness.specs.Parts.{blank}

module _ {A : Type 0} (d : A) where
  -- tested each with its place, the first of which is i
  fold-from : (f : ℕ → A → Bool) (ok : Bool) (i : ℕ) (xs : List A)
      → fold (λ (b : Bool) (e : ℕ × A). b && f e.0 e.1) ok (enumerate_from i xs) ≡ ok && every_below (length xs) (λ (k : ℕ). f (i + k) (get_or xs k d))
  fold-from f ok i [] = sym (ap (λ (b : Bool). ok && b) (every-none _) ∙ and-true ok)
  fold-from f ok i (x ∷ xs) =
      let here : i + 0 ≡ i = omega arith in
      ap (λ (j : ℕ). fold (λ (b : Bool) (e : ℕ × A). b && f e.0 e.1) (ok && f i x) (enumerate_from j xs)) (add-one i)
      ∙ fold-from f (ok && f i x) (suc i) xs
      ∙ and_assoc ok (f i x) (every_below (length xs) (λ (k : ℕ). f (suc i + k) (get_or xs k d)))
      ∙ ap (λ (b : Bool). ok && b)
      (ap₂ ◌&&◌ (ap (λ (k : ℕ). f k x) (sym here))
      (every-ext (length xs) (λ (k : ℕ). f (suc i + k) (get_or xs k d)) (λ (k : ℕ). f (i + suc k) (get_or xs k d)) (λ k h. ap (λ (j : ℕ). f j (get_or xs k d)) (let e : suc i + k ≡ i + suc k = omega arith in e)))
      ∙ sym (every_front (length xs) (λ (k : ℕ). f (i + k) (get_or (x ∷ xs) k d))))

  fold-each : (f : A → Bool) (ok : Bool) (xs : List A) → fold (λ (b : Bool) (x : A). b && f x) ok xs ≡ ok && every_below (length xs) (λ (k : ℕ). f (get_or xs k d))
  fold-each f ok [] = sym (ap (λ (b : Bool). ok && b) (every-none _) ∙ and-true ok)
  fold-each f ok (x ∷ xs) =
      fold-each f (ok && f x) xs
      ∙ and_assoc ok (f x) (every_below (length xs) (λ (k : ℕ). f (get_or xs k d)))
      ∙ ap (λ (b : Bool). ok && b) (sym (every_front (length xs) (λ (k : ℕ). f (get_or (x ∷ xs) k d))))

  pub scanned : (f : A → Bool) (xs : List A) → fold (λ (b : Bool) (x : A). b && f x) true xs ≡ every_below (length xs) (λ (k : ℕ). f (get_or xs k d))
  scanned f xs = fold-each f true xs

  pub scanned-at : (f : ℕ → A → Bool) (xs : List A) → fold (λ (b : Bool) (e : ℕ × A). b && f e.0 e.1) true (enumerate_from 0 xs) ≡ every_below (length xs) (λ (k : ℕ). f k (get_or xs k d))
  scanned-at f xs =
      fold-from f true 0 xs
      ∙ every-ext (length xs) (λ (k : ℕ). f (0 + k) (get_or xs k d)) (λ (k : ℕ). f k (get_or xs k d)) (λ k h. ap (λ (j : ℕ). f j (get_or xs k d)) (zero-add k))

-- the machine's test against the mark
pub blank-bits : (x : ℤ) → SFits w32 x → eqb (of_z w32 x) 2147483648 ≡ blank x
blank-bits x f = eqb-least x f ∙ sym (not-not (sameℤ x the_mark))
