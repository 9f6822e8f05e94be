-- The decimal digits of a number: the last digit by itself, and how many digits there are.
use mathlib.Core.Bool.{Bool, true, false}
use mathlib.Core.List.{List, [], ◌∷◌, ◌++◌}
use mathlib.Core.Path.{◌≡◌, refl, sym, ap, ◌∙◌}
use Prim.Native.Nat.{ℕ, zero, suc, ◌+◌, ◌/◌, ◌%◌, ◌^◌, ◌≤◌, ◌<◌}
use native.Mathlib.Nat.{not-suc-le-zero, pow-suc}
use native.Mathlib.Omega.{arith}
use lib.ListN.{length, set, length-append}
use lib.Seq.{sets}
use lib.Dec.{ltb}
use borrow.Author.Tests.{lt-ltb, le-ltb, ltb-false}
use Rattle.laws.proofs.Cases.{by-lt}
use Rattle.laws.proofs.Stores.{sets-snoc}
use Rattle.meaning.specs.Decimals.{digit, digits, decimal}
use Rattle.laws.proofs.Stores.{set_past}

-- what `most` says beyond the number changes nothing
enough : (j k n : ℕ) (single : Bool) → ltb n 10 ≡ single → n < j → n < k → digits j single n ≡ digits k single n
unfolding digits
enough zero k n single e h g = absurd (not-suc-le-zero h)
enough (suc j) zero n single e h g = absurd (not-suc-le-zero g)
enough (suc j) (suc k) n true e h g = refl
enough (suc j) (suc k) n false e h g =
    let l : 10 ≤ n = ltb-false n 10 e in
    ap (λ (ds : List ℕ). ds ++ (digit (n % 10) ∷ [])) (enough j k (n / 10) (ltb (n / 10) 10) refl (omega arith) (omega arith))

-- one digit
pub decimal-low : (n : ℕ) → n < 10 → decimal n ≡ digit (n % 10) ∷ []
unfolding decimal digits
decimal-low n h =
    let e : n % 10 ≡ n = omega arith in
    rw (lt-ltb n 10 h, e)

-- several: the digits of the tenth, and the last digit
pub decimal-high : (n : ℕ) → 10 ≤ n → decimal n ≡ decimal (n / 10) ++ (digit (n % 10) ∷ [])
unfolding decimal digits
decimal-high n h =
    rw (le-ltb n 10 h)
    (ap (λ (ds : List ℕ). ds ++ (digit (n % 10) ∷ [])) (enough n (suc (n / 10)) (n / 10) (ltb (n / 10) 10) refl (omega arith) (omega arith)))

-- ---- how many there are

pub count_low : (n : ℕ) → n < 10 → length (decimal n) ≡ 1
count_low n h = rw (decimal-low n h)

pub count-high : (n : ℕ) → 10 ≤ n → length (decimal n) ≡ length (decimal (n / 10)) + 1
count-high n h = rw (decimal-high n h, length-append)

pub count-some : (n : ℕ) → 1 ≤ length (decimal n)
count-some n = by-lt n 10 (λ h. omega (arith, count_low n h)) (λ h. omega (arith, count-high n h))

pub count_most : (k n : ℕ) → n < 10 ^ suc k → length (decimal n) ≤ suc k
count_most zero n h = omega (arith, count_low n h)
count_most (suc k) n h =
    by-lt n 10
    (λ l. omega (arith, count_low n l))
    (λ l. omega (arith, count-high n l, count_most k (n / 10) (omega (arith, pow-suc 10 (suc k)))))

pub count_word : (n : ℕ) → n < 2 ^ 64 → length (decimal n) ≤ 20
count_word n h = count_most 19 n (omega arith)

-- ---- a number stored from its last digit on

module _ (out : List ℕ) (at n : ℕ) where
  pub store-last : 10 ≤ n → sets (set out (at + length (decimal (n / 10))) (digit (n % 10))) at (decimal (n / 10)) ≡ sets out at (decimal n)
  store-last h =
      sym (ap (sets out at) (decimal-high n h) ∙ sets-snoc out at (decimal (n / 10)) (digit (n % 10))
      ∙ set_past out at (decimal (n / 10)) (at + length (decimal (n / 10))) (digit (n % 10)) (omega arith))

  pub store-only : n < 10 → set out at (digit (n % 10)) ≡ sets out at (decimal n)
  store-only h = rw (decimal-low n h)
