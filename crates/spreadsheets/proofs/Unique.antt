-- Bytes have one answer and one place.
use mathlib.Core.List.{List, ◌++◌, append_assoc}
use mathlib.Core.Path.{◌≡◌, refl, sym, ap, ◌∙◌, subst}
use Prim.Native.Nat.{ℕ, suc, ◌≤◌, ◌<◌}
use native.Mathlib.Omega.{arith}
use lib.ListN.{length, take, drop, take-append-drop}
use lib.Seq.{take-take}
use borrow.Author.Tests.{lt-ltb, le-ltb}
use Rattle.laws.proofs.Cases.{by-lt}
use Rattle.spreadsheets.specs.Refusals.{Language, valid, number, File, Begins, Goes, Refused, Judged, accepted, refused}

begins-less : (l : Language) (u v : List ℕ) → Begins l (u ++ v) → Begins l u
begins-less l u v b = (v ++ b.0, subst (λ (w : List ℕ). File l w) (append_assoc u v b.0) b.1)

-- what goes on up to a later place went on before
goes_before : (l : Language) (s : List ℕ) (p q : ℕ) → p < q → q ≤ length s → Begins l (take q s) → Goes l s p
goes_before l s p q h k b =
    let e : take (suc p) s ++ drop (suc p) (take q s) ≡ take q s = ap (λ (w : List ℕ). w ++ drop (suc p) (take q s)) (sym (take-take (suc p) q s (omega arith))) ∙ take-append-drop (suc p) (take q s) in
    rw (lt-ltb p (length s) (omega arith)) (begins-less l (take (suc p) s) (drop (suc p) (take q s)) (subst (λ (w : List ℕ). Begins l w) (sym e) b))

file-goes : (l : Language) (s : List ℕ) (p : ℕ) → File l s → Goes l s p
file-goes l s p f =
    by-lt p (length s)
    (λ h. rw (lt-ltb p (length s) h) (drop (suc p) s, subst (λ (w : List ℕ). File l w) (sym (take-append-drop (suc p) s)) f))
    (λ h. rw (le-ltb p (length s) h) f)

one_place : (s : List ℕ) (l m : Language) (p q : ℕ) → Refused s l p → Refused s m q → p ≤ q
one_place s l m p q a b = by-lt q p (λ h. absurd (b.no_more (goes_before valid s q p h a.within a.so_far))) (λ h. h)

one_number : (s : List ℕ) (l m : Language) (p q : ℕ) → p ≡ q → Refused s l p → Refused s m q → number l ≤ number m
one_number s l m p q e a b = by-lt (number m) (number l) (λ h. absurd (b.outside (subst (λ (k : ℕ). Goes m s k) e (a.lowest m h)))) (λ h. h)

pub unique : (s : List ℕ) (n m p q : ℕ) → Judged s n p → Judged s m q → (n ≡ m) × (p ≡ q)
unique s n m p q (accepted f) (accepted g) = (refl, refl)
unique s n m p q (accepted f) (refused l k r) = absurd (r.no_more (file-goes valid s q f))
unique s n m p q (refused l k r) (accepted f) = absurd (r.no_more (file-goes valid s p f))
unique s n m p q (refused l j a) (refused k i b) =
    let e : p ≡ q = omega (arith, one_place s l k p q a b, one_place s k l q p b a) in
    (omega (arith, one_number s l k p q e a b, one_number s k l q p (sym e) b a), e)
