-- What is written of an entry reads back: the period, the volume with its sign, and the entry of both.
use mathlib.Core.Bool.{Bool, true, false, true≢false}
use mathlib.Core.List.{List, [], ◌∷◌, ◌++◌, append-nil}
use mathlib.Core.Path.{◌≡◌, refl, sym, ap, ◌∙◌}
use Prim.Native.Nat.{ℕ, suc, ◌+◌, ◌-◌, ◌*◌, ◌/◌, ◌%◌, ◌<◌}
use native.Mathlib.Nat.{mul-one}
use native.Mathlib.Omega.{arith}
use lib.IntN.{ℤ, pos, negsuc, neg_ℤ}
use lib.ListN.{length}
use borrow.Author.Tests.{eq-eqb, eqb-true}
use Rattle.words.specs.Lists.{any, every, keep}
use Rattle.std.specs.Prelude.{if◌then◌else◌}
use Rattle.words.specs.Tests.{◌=?◌}
use Rattle.laws.proofs.Cases.{on, and_left, and_right, both}
use Rattle.laws.proofs.Lists.{any_append}
use Rattle.meaning.specs.Ascii.{ascii}
use Rattle.meaning.specs.Decimals.{digit, decimal}
use Rattle.meaning.specs.Ledgers.{contracts}
use Rattle.meaning.specs.Messages.{Entry}
use Rattle.meaning.proofs.ReadBack.{reads, digit-is_digit, decimal-read, decimal-digits}
use Rattle.spreadsheets.specs.Entries.{before, behind, is_digit, with_digit, value_from, value, decimals, kwh, kwh_of, entry_of}
use Rattle.spreadsheets.specs.Writing.{three_digits, size_text, mwh_text, entry_text}

-- ---- among digits

-- no byte that is no digit stands among digits
pub none-among : (c : ℕ) → is_digit c ≡ false → (ds : List ℕ) → every is_digit ds ≡ true → any (◌=? c) ds ≡ false
unfolding any every
none-among c n [] e = refl
none-among c n (d ∷ ds) e =
    on (d =? c)
    (λ q. absurd (true≢false (sym (and_left (is_digit d) (every is_digit ds) e) ∙ ap is_digit (eqb-true d c q) ∙ n)))
    (λ q. rw q (none-among c n ds (and_right (is_digit d) (every is_digit ds) e)))

before_at : (c : ℕ) (w t : List ℕ) → any (◌=? c) w ≡ false → before c (w ++ (c ∷ t)) ≡ w
unfolding before any
before_at c [] t e = rw (eq-eqb c c refl)
before_at c (x ∷ w) t e =
    on (x =? c) (λ q. absurd (true≢false (rw q at e))) (λ q. rw q (ap (λ (s : List ℕ). x ∷ s) (before_at c w t (rw q at e))))

behind-at : (c : ℕ) (w t : List ℕ) → any (◌=? c) w ≡ false → behind c (w ++ (c ∷ t)) ≡ t
unfolding behind any
behind-at c [] t e = rw (eq-eqb c c refl)
behind-at c (x ∷ w) t e = on (x =? c) (λ q. absurd (true≢false (rw q at e))) (λ q. rw q (behind-at c w t (rw q at e)))

keep-digits : (ds : List ℕ) → every is_digit ds ≡ true → keep is_digit ds ≡ ds
unfolding keep every
keep-digits [] e = refl
keep-digits (d ∷ ds) e =
    rw (and_left (is_digit d) (every is_digit ds) e) (ap (λ (l : List ℕ). d ∷ l) (keep-digits ds (and_right (is_digit d) (every is_digit ds) e)))

-- ---- values

value-digits : (v : ℕ) (ds rest : List ℕ) → every is_digit ds ≡ true → value_from v (ds ++ rest) ≡ value_from (reads v ds) rest
unfolding every with_digit
value-digits v [] rest e = refl
value-digits v (d ∷ ds) rest e =
    let next : with_digit v d ≡ v * 10 + (d - 0x30) = rw (and_left (is_digit d) (every is_digit ds) e) in
    ap (λ (n : ℕ). value_from n (ds ++ rest)) next ∙ value-digits (v * 10 + (d - 0x30)) ds rest (and_right (is_digit d) (every is_digit ds) e)

value-decimal : (n : ℕ) → value (decimal n) ≡ n
unfolding value
value-decimal n = ap (value_from 0) (sym (append-nil (decimal n))) ∙ value-digits 0 (decimal n) [] (decimal-digits n) ∙ decimal-read n

with-digit : (v d : ℕ) → d < 10 → with_digit v (digit d) ≡ v * 10 + d
unfolding with_digit
with-digit v d h = rw (digit-is_digit d h) (omega arith)

-- a point and a minus are no digits
point-passed : (v : ℕ) → with_digit v 0x2E ≡ v
unfolding with_digit
point-passed v = refl

minus-passed : (v : ℕ) → with_digit v 0x2D ≡ v
unfolding with_digit
minus-passed v = refl

value-three : (v n : ℕ) → value_from v (ascii "." ++ three_digits n) ≡ ((v * 10 + n / 100 % 10) * 10 + n / 10 % 10) * 10 + n % 10
value-three v n =
    rw (point-passed v, with-digit v (n / 100 % 10) (omega arith), with-digit (v * 10 + n / 100 % 10) (n / 10 % 10) (omega arith))
    (with-digit ((v * 10 + n / 100 % 10) * 10 + n / 10 % 10) (n % 10) (omega arith))

value-size : (n : ℕ) → value_from 0 (size_text n) ≡ n
value-size n =
    value-digits 0 (decimal (n / 1000)) (ascii "." ++ three_digits n) (decimal-digits (n / 1000))
    ∙ ap (λ (q : ℕ). value_from q (ascii "." ++ three_digits n)) (decimal-read (n / 1000))
    ∙ value-three (n / 1000) n
    ∙ omega arith

-- ---- a size in MWh: digits, one point, and three digits behind it

pub three-digits : (n : ℕ) → every is_digit (three_digits n) ≡ true
unfolding every
three-digits n = both (digit-is_digit (n / 100 % 10) (omega arith)) (both (digit-is_digit (n / 10 % 10) (omega arith)) (both (digit-is_digit (n % 10) (omega arith)) refl))

pub size_none : (n c : ℕ) → is_digit c ≡ false → (0x2E =? c) ≡ false → any (◌=? c) (size_text n) ≡ false
unfolding any
size_none n c d e =
    any_append (◌=? c) (decimal (n / 1000)) (ascii "." ++ three_digits n)
    ∙ rw (none-among c d (decimal (n / 1000)) (decimal-digits (n / 1000)), e) (none-among c d (three_digits n) (three-digits n))

size-places : (n : ℕ) → length (keep is_digit (behind 0x2E (size_text n))) ≡ 3
size-places n =
    ap (λ (s : List ℕ). length (keep is_digit s))
    (behind-at 0x2E (decimal (n / 1000)) (three_digits n) (none-among 0x2E refl (decimal (n / 1000)) (decimal-digits (n / 1000))))
    ∙ ap length (keep-digits (three_digits n) (three-digits n))

-- ---- the volume, and the entry

kwh-three : (minus : Bool) (n : ℕ) → kwh minus n 3 ≡ (if minus then neg_ℤ (pos n) else pos n)
unfolding kwh
kwh-three minus n = rw (mul-one n)

kwh-back : (z : ℤ) → kwh_of (mwh_text z) ≡ z
unfolding kwh_of mwh_text value decimals any behind
kwh-back (pos n) = (λ i. kwh (size_none n 0x2D refl refl i) (value-size n i) (size-places n i)) ∙ kwh-three false n
kwh-back (negsuc n) =
    (λ i. kwh true (value_from (minus-passed 0 i) (size_text (suc n))) (size-places (suc n) i))
    ∙ (λ i. kwh true (value-size (suc n) i) 3)
    ∙ kwh-three true (suc n)

pub entry-back : (e : Entry contracts) → entry_of (entry_text e) ≡ e
unfolding entry_of entry_text
entry-back e =
    let ds = decimal e.period in
    let none = none-among 0x2C refl ds (decimal-digits e.period) in
    let p : value (before 0x2C (ds ++ (0x2C ∷ mwh_text e.volume))) ≡ e.period = ap value (before_at 0x2C ds (mwh_text e.volume) none) ∙ value-decimal e.period in
    let v : kwh_of (behind 0x2C (ds ++ (0x2C ∷ mwh_text e.volume))) ≡ e.volume = ap kwh_of (behind-at 0x2C ds (mwh_text e.volume) none) ∙ kwh-back e.volume in
    λ i. record { period = p i; volume = v i }
