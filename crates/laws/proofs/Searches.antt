-- The first place of a number, as std's words for `position` say it.
use mathlib.Core.Bool.{cond}
use mathlib.Core.List.{List}
use mathlib.Core.Path.{◌≡◌, refl, sym, ap, ◌∙◌}
use Prim.Native.Nat.{ℕ, suc, ◌+◌}
use native.Mathlib.Omega.{arith}
use lib.Dec.{eqb}
use lib.ListN.{length}
use borrow.Author.Tests.{lt-ltb, le-ltb}
use Rattle.std.specs.List.{position, position_or_len}
use Rattle.std.specs.Option.{unwrap_or}
use Rattle.std.specs.declared.option.Option.{Option}
use Rattle.std.proofs.lemmas.List.Recursion.{is_position_or_len}
use Rattle.words.specs.Lists.{find}
use Rattle.laws.proofs.Cases.{by-lt}
use Rattle.laws.proofs.Lists.{find-le}

one-more : (k : ℕ) → suc k ≡ 1 + k
one-more k = omega arith

module _ (n : ℕ) (xs : List ℕ) where
  pub find-position : find n xs ≡ position_or_len (λ (x : ℕ). eqb x n) xs
  unfolding find
  find-position = is_position_or_len (find n) (λ (x : ℕ). eqb x n) refl (λ x later. ap (cond (eqb x n) 0) (one-more (find n later))) xs

  -- `xs.iter().position(|x| *x == n).unwrap_or(xs.len())`
  pub position-find : (r : Option ℕ) (u : ℕ) → r ≡ position (λ (x : ℕ). eqb x n) xs → u ≡ unwrap_or r (length xs) → u ≡ find n xs
  position-find r u p e =
      e
      ∙ ap (λ (o : Option ℕ). unwrap_or o (length xs)) p
      ∙ by-lt (position_or_len (λ (x : ℕ). eqb x n) xs) (length xs)
      (λ h. rw (lt-ltb (position_or_len (λ (x : ℕ). eqb x n) xs) (length xs) h) (sym find-position))
      (λ h. rw (le-ltb (position_or_len (λ (x : ℕ). eqb x n) xs) (length xs) h) (let e : length xs ≡ find n xs = omega (arith, find-le n xs, find-position) in e))
