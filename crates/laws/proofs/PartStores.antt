-- What a write to a part of a lent list leaves, `&mut s[a..e]` or `&mut s[..k]`, is a run of stores.
use mathlib.Core.List.{List, ◌++◌, append_assoc}
use mathlib.Core.Path.{◌≡◌, sym, ap, ◌∙◌}
use Prim.Native.Nat.{ℕ, ◌+◌, ◌-◌, ◌≤◌, min}
use native.Mathlib.Omega.{arith}
use lib.ListN.{length, take, drop, replicate, length-replicate}
use lib.Seq.{sets, sets-eq, drop-drop, take_all, length-take-le}
use borrow.Rule.Slice.PartMut.{put_mid}
use Rattle.laws.proofs.Cases.{by-lt}
use Rattle.std.proofs.lemmas.List.{take-replicate}
use Rattle.laws.proofs.Stores.{sets-out, sets-inside}

module _ {A : Type 0} (l : List A) where
  -- the part from place a on, of k places, with as many elements written; of `s[..k]` the place is 0, and what is left of s computes to the same
  pub put_mid-sets : (a k : ℕ) (vs : List A) → length vs ≡ k → a + k ≤ length l → put_mid a k l vs ≡ sets l a vs
  put_mid-sets a k vs e h =
      sym (append_assoc (take a l) vs (drop k (drop a l)))
      ∙ ap (λ (rest : List A). (take a l ++ vs) ++ rest) (drop-drop k a l ∙ ap (λ (n : ℕ). drop (a + n) l) (sym e))
      ∙ sym (sets-eq vs l a (omega arith))

  pub front-sets : (k : ℕ) (vs : List A) → length vs ≡ k → k ≤ length l → vs ++ drop k l ≡ sets l 0 vs
  front-sets k vs e h = put_mid-sets 0 k vs e (omega arith)

  -- the part cut off at the list's end: a store past the end changes nothing
  pub clipped-sets : (at a n k : ℕ) (vs ws : List A) → a ≡ min at (length l) → n ≡ min (length vs) (length l - a) → k ≡ n → ws ≡ take n vs → put_mid a k l ws ≡ sets l at vs
  clipped-sets at a n k vs ws p q r e =
      let few : length ws ≡ n = ap length e ∙ length-take-le n vs (omega arith) in
      put_mid-sets a k ws (omega arith) (omega arith)
      ∙ ap (sets l a) e
      ∙ by-lt at (length l)
      (λ h.
      ap (λ (i : ℕ). sets l i (take n vs)) (let i : a ≡ at = omega arith in i)
      ∙ by-lt n (length vs)
      (λ m. sym (sets-inside l at vs n (omega arith)))
      (λ m. ap (sets l at) (take_all n vs m)))
      (λ h. sets-out l a (take n vs) (omega arith) ∙ sym (sets-out l at vs h))

  -- and filled with one value
  pub clipped-fill : (at a n k count : ℕ) (x : A) (ws : List A) → a ≡ min at (length l) → n ≡ min count (length l - a) → k ≡ n → ws ≡ replicate n x → put_mid a k l ws ≡ sets l at (replicate count x)
  clipped-fill at a n k count x ws p q r e =
      clipped-sets at a n k (replicate count x) ws p (rw length-replicate q) r (e ∙ sym (take-replicate n count x (omega arith)))
