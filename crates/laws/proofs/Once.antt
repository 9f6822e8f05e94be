-- Each number of a list once: the same numbers, no two alike, one more at the end, and a sum over them among all numbers.
use mathlib.Core.Bool.{Bool, true, false, not, cond, ◌&&◌, ◌||◌}
use mathlib.Core.List.{List, [], ◌∷◌, ◌++◌, append-nil}
use mathlib.Core.Path.{◌≡◌, refl, sym, ap, ◌∙◌}
use Prim.Native.Nat.{ℕ, suc, ◌<◌}
use native.Mathlib.Omega.{arith}
use lib.Dec.{eqb}
use lib.IntN.{ℤ, pos, ◌+ℤ◌, +ℤ_idl, +ℤ_idr}
use lib.ListN.{length, get_or}
use borrow.Author.Tests.{not-true, eqb-true, eq-eqb, ne_eqb}
use Rattle.words.specs.Below.{sum_belowℤ}
use Rattle.words.specs.Lists.{any, keep, different, once, sum_over}
use Rattle.laws.proofs.Cases.{on, and_left, and_right, and-false, or_left, or_right, or-true, or-false}
use Rattle.laws.proofs.Lists.{keep_snoc}
use Rattle.laws.proofs.Sums.{sum-ext, sum-nil, sum-add, point-sum}

-- a number more at the end is new, or it stood before
pub once-snoc : (xs : List ℕ) (x : ℕ) → once (xs ++ (x ∷ [])) ≡ cond (any (eqb x) xs) (once xs) (once xs ++ (x ∷ []))
unfolding once any keep
once-snoc [] x = refl
once-snoc (y ∷ ys) x =
    rw (once-snoc ys x)
    (on (any (eqb x) ys)
    (λ e. rw (e, or-true (eqb x y)))
    (λ e. rw (e, or-false (eqb x y), keep_snoc (λ (z : ℕ). not (eqb z y)) (once ys) x)
    (on (eqb x y)
    (λ q. rw (q, append-nil))
    (λ q. rw q))))

-- ---- the same numbers

without : (i x : ℕ) (l : List ℕ) → any (eqb i) (keep (λ (y : ℕ). not (eqb y x)) l) ≡ not (eqb i x) && any (eqb i) l
unfolding any keep
without i x [] = sym (and-false (not (eqb i x)))
without i x (y ∷ ys) =
    on (eqb y x)
    (λ q. rw (q, without i x ys, eqb-true y x q) (passed_over (eqb i x) (any (eqb i) ys)))
    (λ q. rw (q, without i x ys)
    (on (eqb i y)
    (λ e. rw (eqb-true i y e, q, eq-eqb y y refl))
    (λ e. rw e)))
  where
    passed_over : (t u : Bool) → not t && u ≡ not t && (t || u)
    passed_over true u = refl
    passed_over false u = refl

-- a number stands in it exactly when it stands in the list
pub once-any : (i : ℕ) (xs : List ℕ) → any (eqb i) (once xs) ≡ any (eqb i) xs
unfolding once any
once-any i [] = refl
once-any i (x ∷ xs) = rw (without i x (once xs), once-any i xs) (either (eqb i x) (any (eqb i) xs))
  where
    either : (t u : Bool) → t || (not t && u) ≡ t || u
    either true u = refl
    either false u = refl

-- ---- no two alike

keep-none : (i : ℕ) (f : ℕ → Bool) (l : List ℕ) → any (eqb i) l ≡ false → any (eqb i) (keep f l) ≡ false
unfolding any keep
keep-none i f [] e = refl
keep-none i f (y ∷ ys) e =
    let later = keep-none i f ys (or_right (eqb i y) (any (eqb i) ys) e) in
    on (f y) (λ q. rw (q, or_left (eqb i y) (any (eqb i) ys) e) later) (λ q. rw q later)

-- the first of different numbers is none of the others, and those differ
different-first : (x : ℕ) (xs : List ℕ) → different (x ∷ xs) ≡ true → any (eqb x) xs ≡ false
unfolding different
different-first x xs e = not-true (any (eqb x) xs) (and_left (not (any (eqb x) xs)) (different xs) e)

different-rest : (x : ℕ) (xs : List ℕ) → different (x ∷ xs) ≡ true → different xs ≡ true
unfolding different
different-rest x xs e = and_right (not (any (eqb x) xs)) (different xs) e

keep-different : (f : ℕ → Bool) (l : List ℕ) → different l ≡ true → different (keep f l) ≡ true
unfolding different keep
keep-different f [] e = refl
keep-different f (y ∷ ys) e =
    let later = keep-different f ys (different-rest y ys e) in
    on (f y) (λ q. rw (q, keep-none y f ys (different-first y ys e)) later) (λ q. rw q later)

pub once-different : (xs : List ℕ) → different (once xs) ≡ true
unfolding once different
once-different [] = refl
once-different (x ∷ xs) =
    rw (without x x (once xs), eq-eqb x x refl) (keep-different (λ (y : ℕ). not (eqb y x)) (once xs) (once-different xs))

-- ---- a sum over different numbers, each below n, among all numbers below n

among-split : (g : ℕ → ℤ) (x : ℕ) (xs : List ℕ) (i : ℕ) → any (eqb x) xs ≡ false
    → cond (eqb i x || any (eqb i) xs) (g i) (pos 0) ≡ cond (eqb i x) (g i) (pos 0) +ℤ cond (any (eqb i) xs) (g i) (pos 0)
among-split g x xs i e =
    on (eqb i x)
    (λ q.
    let apart : any (eqb i) xs ≡ false = rw (eqb-true i x q) e in
    rw (q, apart) (sym (+ℤ_idr (g i))))
    (λ q. rw q (sym (+ℤ_idl (cond (any (eqb i) xs) (g i) (pos 0)))))

pub sum-among : (n : ℕ) (g : ℕ → ℤ) (xs : List ℕ) → different xs ≡ true → ((k : ℕ) → k < length xs → get_or xs k 0 < n)
    → sum_belowℤ n (λ (i : ℕ). cond (any (eqb i) xs) (g i) (pos 0)) ≡ sum_over xs g
unfolding any sum_over
sum-among n g [] d h = sum-nil n
sum-among n g (x ∷ xs) d h =
    let here : ℕ → ℤ = λ i. cond (eqb i x) (g i) (pos 0) in
    let later : ℕ → ℤ = λ i. cond (any (eqb i) xs) (g i) (pos 0) in
    let first : sum_belowℤ n here ≡ g x = point-sum n x (g x) here (h 0 (omega arith)) (rw (eq-eqb x x refl)) (λ i l q. rw (ne_eqb i x q)) in
    let rest : sum_belowℤ n later ≡ sum_over xs g = sum-among n g xs (different-rest x xs d) (λ k l. h (suc k) (omega arith)) in
    sum-ext n (λ (i : ℕ). cond (eqb i x || any (eqb i) xs) (g i) (pos 0)) (λ (i : ℕ). here i +ℤ later i) (λ i l. among-split g x xs i (different-first x xs d))
    ∙ sum-add n here later
    ∙ (λ j. first j +ℤ rest j)

-- and how many they are
sum_ones : (xs : List ℕ) → sum_over xs (λ i. pos 1) ≡ pos (length xs)
unfolding sum_over
sum_ones [] = refl
sum_ones (x ∷ xs) = ap (λ (z : ℤ). pos 1 +ℤ z) (sum_ones xs) ∙ ap pos (omega arith)

pub count-among : (n : ℕ) (xs : List ℕ) → different xs ≡ true → ((k : ℕ) → k < length xs → get_or xs k 0 < n)
    → sum_belowℤ n (λ (i : ℕ). cond (any (eqb i) xs) (pos 1) (pos 0)) ≡ pos (length xs)
count-among n xs d h = sum-among n (λ i. pos 1) xs d h ∙ sum_ones xs
