-- How many decimal digits a number has, by the power of ten that it reaches; and the last so many digits of a number, one after the other.
use Rattle.std.proofs.Common.{◌≡◌, ℕ, zero, suc, ◌+◌, ◌-◌, ◌*◌, ◌/◌, ◌%◌, ◌^◌, ◌<◌, ◌≤◌, List, [], ◌∷◌, ◌++◌, length, set, refl, sym, ap, ◌∙◌, arith, length-append}
use Rattle.std.specs.Prelude.{Option, None, Some, IfNone, IfSome}
use Rattle.std.specs.Option.{unwrap_or}
use native.Mathlib.Nat.{pow-suc}
use lib.Seq.{sets}
use Rattle.laws.proofs.Cases.{by-lt}
use Rattle.laws.proofs.Stores.{sets-snoc, set_past}
use Rattle.meaning.specs.Decimals.{digit, decimal}
use Rattle.meaning.proofs.Decimals.{decimal-low, decimal-high, count_low, count-high, count-some, count_most}

-- ---- how many

ten_pow : (k : ℕ) → 1 ≤ 10 ^ k
ten_pow zero = omega arith
ten_pow (suc k) = omega (arith, pow-suc 10 k, ten_pow k)

count_least : (k n : ℕ) → 10 ^ k ≤ n → suc k ≤ length (decimal n)
count_least zero n h = count-some n
count_least (suc k) n h =
    let many : 10 ≤ n = omega (arith, pow-suc 10 k, ten_pow k) in
    omega (arith, count-high n many, count_least k (n / 10) (omega (arith, pow-suc 10 k)))

count_is : (k n : ℕ) → 10 ^ k ≤ n → n < 10 * 10 ^ k → k + 1 ≡ length (decimal n)
count_is k n low high = omega (arith, count_least k n low, count_most k n (omega (arith, pow-suc 10 k)))

-- 0 has no logarithm, and one digit
pub counted : (n : ℕ) (log : Option ℕ) → IfNone log (n ≡ 0) → IfSome log (λ k. 10 ^ k ≤ n) → IfSome log (λ k. n < 10 * 10 ^ k) → unwrap_or log 0 + 1 ≡ length (decimal n)
counted n None z low high = sym (count_low n (omega arith))
counted n (Some k) z low high = count_is k n low high

-- ---- the last so many digits

unfoldable pub last_digits : ℕ → ℕ → List ℕ
last_digits zero n = []
last_digits (suc k) n = last_digits k (n / 10) ++ (digit (n % 10) ∷ [])

length-last : (k n : ℕ) → length (last_digits k n) ≡ k
unfolding last_digits
length-last zero n = refl
length-last (suc k) n = omega (arith, length-append (last_digits k (n / 10)) (digit (n % 10) ∷ []), length-last k (n / 10))

-- all of them are the number
pub last-all : (k n : ℕ) → length (decimal n) ≡ k → last_digits k n ≡ decimal n
unfolding last_digits
last-all zero n e = absurd (omega (arith, count-some n))
last-all (suc k) n e =
    by-lt n 10
    (λ h. let z : k ≡ 0 = omega (arith, count_low n h) in rw (z, decimal-low n h))
    (λ h. rw (decimal-high n h) (ap (λ (ds : List ℕ). ds ++ (digit (n % 10) ∷ [])) (last-all k (n / 10) (omega (arith, count-high n h)))))

-- a digit stored behind those that are left, of which the first stands at `at` and the last before `end`
pub last-stored : (out : List ℕ) (at end n : ℕ) → at < end
    → sets (set out (end - 1) (digit (n % 10))) at (last_digits (end - 1 - at) (n / 10)) ≡ sets out at (last_digits (end - at) n)
unfolding last_digits
last-stored out at end n h =
    let k = end - 1 - at in
    let behind : at + length (last_digits k (n / 10)) ≡ end - 1 = omega (arith, length-last k (n / 10)) in
    let more : end - at ≡ suc k = omega arith in
    rw more
    (sym (sets-snoc out at (last_digits k (n / 10)) (digit (n % 10))
    ∙ ap (λ (m : ℕ). set (sets out at (last_digits k (n / 10))) m (digit (n % 10))) behind
    ∙ set_past out at (last_digits k (n / 10)) (end - 1) (digit (n % 10)) (omega arith)))
