-- A test whether two patterns are the same.
use mathlib.Core.Bool.{Bool, true, false, ◌&&◌, true≢false}
use mathlib.Core.List.{List, [], ◌∷◌}
use mathlib.Core.Path.{◌≡◌, refl, sym, ◌∙◌}
use Prim.Native.Nat.{ℕ, zero, suc}
use borrow.Author.Tests.{eqb-true}
use Rattle.words.specs.Tests.{◌=?◌}
use Rattle.laws.proofs.Cases.{and_left, and_right}
use Rattle.patterns.specs.Patterns.{Range, ◌to◌, Pattern, never, empty, one, ◌·◌, ◌∣◌, many}

same_ranges : List Range → List Range → Bool
same_ranges [] [] = true
same_ranges [] (y ∷ ys) = false
same_ranges (x ∷ xs) [] = false
same_ranges ((a to b) ∷ xs) ((c to d) ∷ ys) = a =? c && (b =? d && same_ranges xs ys)

ranges-same : (xs ys : List Range) → same_ranges xs ys ≡ true → xs ≡ ys
unfolding same_ranges
ranges-same [] [] e = refl
ranges-same [] (y ∷ ys) e = absurd (true≢false (sym e))
ranges-same (x ∷ xs) [] e = absurd (true≢false (sym e))
ranges-same ((a to b) ∷ xs) ((c to d) ∷ ys) e =
    let f = and_right (a =? c) (b =? d && same_ranges xs ys) e in
    let p = eqb-true a c (and_left (a =? c) (b =? d && same_ranges xs ys) e) in
    let q = eqb-true b d (and_left (b =? d) (same_ranges xs ys) f) in
    let r = ranges-same xs ys (and_right (b =? d) (same_ranges xs ys) f) in
    λ i. (p i to q i) ∷ r i

-- a pattern taken apart: its form and its parts
form : Pattern → ℕ
form never = 0
form empty = 1
form (one ranges) = 2
form (p · q) = 3
form (p ∣ q) = 4
form (many p) = 5

ranges_of : Pattern → List Range
ranges_of never = []
ranges_of empty = []
ranges_of (one ranges) = ranges
ranges_of (p · q) = []
ranges_of (p ∣ q) = []
ranges_of (many p) = []

first : Pattern → Pattern
first never = never
first empty = never
first (one ranges) = never
first (p · q) = p
first (p ∣ q) = p
first (many p) = p

second : Pattern → Pattern
second never = never
second empty = never
second (one ranges) = never
second (p · q) = q
second (p ∣ q) = q
second (many p) = never

made : ℕ → List Range → Pattern → Pattern → Pattern
made zero r p q = never
made (suc zero) r p q = empty
made (suc (suc zero)) r p q = one r
made (suc (suc (suc zero))) r p q = p · q
made (suc (suc (suc (suc zero)))) r p q = p ∣ q
made (suc (suc (suc (suc (suc n))))) r p q = many p

remade : (p : Pattern) → made (form p) (ranges_of p) (first p) (second p) ≡ p
unfolding made form ranges_of first second
remade never = refl
remade empty = refl
remade (one ranges) = refl
remade (p · q) = refl
remade (p ∣ q) = refl
remade (many p) = refl

unfoldable pub same : Pattern → Pattern → Bool
unfolding same_ranges form ranges_of first second
same never q = form q =? 0
same empty q = form q =? 1
same (one ranges) q = form q =? 2 && same_ranges ranges (ranges_of q)
same (a · b) q = form q =? 3 && (same a (first q) && same b (second q))
same (a ∣ b) q = form q =? 4 && (same a (first q) && same b (second q))
same (many a) q = form q =? 5 && same a (first q)

pub same-is : (p q : Pattern) → same p q ≡ true → p ≡ q
unfolding same made
same-is never q e = let t = eqb-true (form q) 0 e in (λ i. made (sym t i) (ranges_of q) (first q) (second q)) ∙ remade q
same-is empty q e = let t = eqb-true (form q) 1 e in (λ i. made (sym t i) (ranges_of q) (first q) (second q)) ∙ remade q
same-is (one ranges) q e =
    let t = eqb-true (form q) 2 (and_left (form q =? 2) (same_ranges ranges (ranges_of q)) e) in
    let r = ranges-same ranges (ranges_of q) (and_right (form q =? 2) (same_ranges ranges (ranges_of q)) e) in
    (λ i. made (sym t i) (r i) (first q) (second q)) ∙ remade q
same-is (a · b) q e =
    let t = eqb-true (form q) 3 (and_left (form q =? 3) (same a (first q) && same b (second q)) e) in
    let f = and_right (form q =? 3) (same a (first q) && same b (second q)) e in
    let m = same-is a (first q) (and_left (same a (first q)) (same b (second q)) f) in
    let n = same-is b (second q) (and_right (same a (first q)) (same b (second q)) f) in
    (λ i. made (sym t i) (ranges_of q) (m i) (n i)) ∙ remade q
same-is (a ∣ b) q e =
    let t = eqb-true (form q) 4 (and_left (form q =? 4) (same a (first q) && same b (second q)) e) in
    let f = and_right (form q =? 4) (same a (first q) && same b (second q)) e in
    let m = same-is a (first q) (and_left (same a (first q)) (same b (second q)) f) in
    let n = same-is b (second q) (and_right (same a (first q)) (same b (second q)) f) in
    (λ i. made (sym t i) (ranges_of q) (m i) (n i)) ∙ remade q
same-is (many a) q e =
    let t = eqb-true (form q) 5 (and_left (form q =? 5) (same a (first q)) e) in
    let m = same-is a (first q) (and_right (form q =? 5) (same a (first q)) e) in
    (λ i. made (sym t i) (ranges_of q) (m i) (second q)) ∙ remade q
