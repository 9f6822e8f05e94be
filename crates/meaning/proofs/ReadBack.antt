-- The digits of a number are its own: each is a digit, read in base ten they give the number back, and no zero leads.
use mathlib.Core.Bool.{true}
use mathlib.Core.List.{List, [], ◌∷◌, ◌++◌}
use mathlib.Core.Path.{◌≡◌, refl, ◌∙◌}
use Prim.Native.Nat.{ℕ, zero, suc, ◌+◌, ◌-◌, ◌*◌, ◌/◌, ◌%◌, ◌≤◌, ◌<◌}
use native.Mathlib.Nat.{not-suc-le-zero}
use native.Mathlib.Omega.{arith}
use lib.ListN.{get_or}
use borrow.Author.Tests.{le-leb}
use Rattle.words.specs.Lists.{every}
use Rattle.words.specs.Tests.{between}
use Rattle.laws.proofs.Cases.{by-lt, both}
use Rattle.laws.proofs.Lists.{every_append}
use Rattle.meaning.specs.Ascii.{ascii}
use Rattle.meaning.specs.Decimals.{digit, digits, decimal}
use Rattle.meaning.proofs.Decimals.{decimal-low, decimal-high}

-- the number that bytes say in base ten, after the digits read before
abbrev pub reads : ℕ → List ℕ → ℕ
reads before [] = before
reads before (b ∷ bs) = reads (before * 10 + (b - 48)) bs

reads-append : (before : ℕ) (xs ys : List ℕ) → reads before (xs ++ ys) ≡ reads (reads before xs) ys
reads-append before [] ys = refl
reads-append before (x ∷ xs) ys = reads-append (before * 10 + (x - 48)) xs ys

reads-below : (k n : ℕ) → n < k → reads 0 (decimal n) ≡ n
reads-below zero n h = absurd (not-suc-le-zero h)
reads-below (suc k) n h =
    by-lt n 10
    (λ l. rw (decimal-low n l) (omega arith))
    (λ l. rw (decimal-high n l) (reads-append 0 (decimal (n / 10)) (digit (n % 10) ∷ []) ∙ omega (arith, reads-below k (n / 10) (omega arith))))

pub decimal-read : (n : ℕ) → reads 0 (decimal n) ≡ n
decimal-read n = reads-below (suc n) n (omega arith)

-- ---- each byte is a digit

pub digit-is_digit : (d : ℕ) → d < 10 → between 48 57 (digit d) ≡ true
digit-is_digit d h = both (le-leb 48 (48 + d) (omega arith)) (le-leb (48 + d) 57 (omega arith))

digits-below : (k n : ℕ) → n < k → every (between 48 57) (decimal n) ≡ true
unfolding every
digits-below zero n h = absurd (not-suc-le-zero h)
digits-below (suc k) n h =
    by-lt n 10
    (λ l. rw (decimal-low n l) (both (digit-is_digit (n % 10) (omega arith)) refl))
    (λ l. rw (decimal-high n l) (every_append (between 48 57) (decimal (n / 10)) (digit (n % 10) ∷ []) (digits-below k (n / 10) (omega arith)) (both (digit-is_digit (n % 10) (omega arith)) refl)))

pub decimal-digits : (n : ℕ) → every (between 48 57) (decimal n) ≡ true
decimal-digits n = digits-below (suc n) n (omega arith)

-- ---- and the first is no zero

front : (xs ys : List ℕ) → 49 ≤ get_or xs 0 0 → 49 ≤ get_or (xs ++ ys) 0 0
front [] ys h = absurd (not-suc-le-zero h)
front (x ∷ xs) ys h = h

leading-below : (k n : ℕ) → n < k → 0 < n → 49 ≤ get_or (decimal n) 0 0
leading-below zero n h p = absurd (not-suc-le-zero h)
leading-below (suc k) n h p =
    by-lt n 10
    (λ l. rw (decimal-low n l) (omega arith))
    (λ l. rw (decimal-high n l) (front (decimal (n / 10)) (digit (n % 10) ∷ []) (leading-below k (n / 10) (omega arith) (omega arith))))

pub no-leading-zero : (n : ℕ) → 0 < n → 49 ≤ get_or (decimal n) 0 0
no-leading-zero n p = leading-below (suc n) n (omega arith) p

-- NO NEEDLESS ZERO: digits that begin with a zero are a zero alone
pub no-needless-zero : (n : ℕ) → get_or (decimal n) 0 0 ≡ digit 0 → decimal n ≡ ascii "0"
unfolding decimal digits
no-needless-zero zero e = refl
no-needless-zero (suc n) e = absurd (omega (arith, no-leading-zero (suc n) (omega arith)))
