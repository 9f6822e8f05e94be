-- What is written of at most 50 writable entries is a valid file.
use mathlib.Core.Bool.{Bool, true, false, ◌&&◌, ◌||◌}
use mathlib.Core.List.{List, [], ◌∷◌, ◌++◌, map, append_assoc}
use mathlib.Core.Logic.{inl, inr}
use mathlib.Core.Path.{◌≡◌, refl, sym, ap, ◌∙◌}
use Prim.Native.Nat.{ℕ, zero, suc, ◌/◌, ◌≤◌}
use native.Mathlib.Nat.{not-suc-le-zero}
use native.Mathlib.Omega.{arith}
use lib.IntN.{ℤ, pos, negsuc, nat_abs}
use lib.ListN.{length}
use Rattle.words.specs.Lists.{any, every, join}
use Rattle.laws.proofs.Cases.{and_left, and_right}
use Rattle.meaning.specs.Ascii.{ascii}
use Rattle.meaning.specs.Decimals.{decimal}
use Rattle.meaning.specs.Ledgers.{contracts}
use Rattle.meaning.specs.Messages.{Entry}
use Rattle.meaning.proofs.Decimals.{count-some, count_most}
use Rattle.meaning.proofs.ReadBack.{decimal-digits}
use Rattle.patterns.specs.Patterns.{Pattern, ◌·◌, many, is_one_of, Each, Matches, byte, optional, up_to}
use Rattle.patterns.proofs.Derivatives.{nullable, derive, derives, after, either, is_never}
use Rattle.patterns.proofs.Follows.{matches-is}
use Rattle.spreadsheets.specs.Languages.{newline, comma, spelled, header, digit, period, mwh, number_file}
use Rattle.spreadsheets.specs.Entries.{is_digit}
use Rattle.spreadsheets.specs.Refusals.{valid, File}
use Rattle.spreadsheets.specs.Writing.{three_digits, size_text, mwh_text, entry_text, entry_line, written, writable}
use Rattle.spreadsheets.proofs.WrittenNumbers.{three-digits}
use Rattle.spreadsheets.proofs.WrittenLength.{writable-period, writable-volume}
use Rattle.spreadsheets.proofs.ReadBack.{read_back}

one-after-other : (p q : Pattern) (u v : List ℕ) → Matches p u → Matches q v → Matches (p · q) (u ++ v)
one-after-other p q u v m n = (u, (v, (refl, (m, n))))

-- ---- digits

one-digit : (b : ℕ) → is_digit b ≡ true → Matches digit (b ∷ [])
unfolding is_one_of any
one-digit b e = (b, (refl, ap (λ (t : Bool). t || false) e))

digits-up-to : (n : ℕ) (ds : List ℕ) → every is_digit ds ≡ true → length ds ≤ n → Matches (up_to n digit) ds
unfolding every
digits-up-to zero [] e h = refl
digits-up-to zero (d ∷ ds) e h = absurd (not-suc-le-zero h)
digits-up-to (suc n) [] e h = inr refl
digits-up-to (suc n) (d ∷ ds) e h =
    inl
    (one-after-other digit (up_to n digit) (d ∷ []) ds (one-digit d (and_left (is_digit d) (every is_digit ds) e))
    (digits-up-to n ds (and_right (is_digit d) (every is_digit ds) e) (omega arith)))

-- one, then up to n more
some-digits : (n : ℕ) (ds : List ℕ) → every is_digit ds ≡ true → 1 ≤ length ds → length ds ≤ suc n → Matches (digit · up_to n digit) ds
unfolding every
some-digits n [] e h k = absurd (not-suc-le-zero h)
some-digits n (d ∷ ds) e h k =
    one-after-other digit (up_to n digit) (d ∷ []) ds (one-digit d (and_left (is_digit d) (every is_digit ds) e))
    (digits-up-to n ds (and_right (is_digit d) (every is_digit ds) e) (omega arith))

-- and what follows them
digits-then : (n : ℕ) (p : Pattern) (ds rest : List ℕ) → every is_digit ds ≡ true → 1 ≤ length ds → length ds ≤ suc n → Matches p rest
    → Matches (digit · (up_to n digit · p)) (ds ++ rest)
unfolding every
digits-then n p [] rest e h k m = absurd (not-suc-le-zero h)
digits-then n p (d ∷ ds) rest e h k m =
    one-after-other digit (up_to n digit · p) (d ∷ []) (ds ++ rest) (one-digit d (and_left (is_digit d) (every is_digit ds) e))
    (one-after-other (up_to n digit) p ds rest (digits-up-to n ds (and_right (is_digit d) (every is_digit ds) e) (omega arith)) m)

-- ---- the numbers of an entry

period-matches : (ds : List ℕ) → every is_digit ds ≡ true → 1 ≤ length ds → length ds ≤ 2 → Matches period ds
unfolding every
period-matches [] e h k = absurd (not-suc-le-zero h)
period-matches (d ∷ []) e h k = one-after-other digit (optional digit) (d ∷ []) [] (one-digit d (and_left (is_digit d) true e)) (inr refl)
period-matches (d ∷ (b ∷ [])) e h k =
    one-after-other digit (optional digit) (d ∷ []) (b ∷ []) (one-digit d (and_left (is_digit d) (is_digit b && true) e))
    (inl (one-digit b (and_left (is_digit b) true (and_right (is_digit d) (is_digit b && true) e))))
period-matches (d ∷ (b ∷ (c ∷ ds))) e h k = absurd (omega arith)

abbrev places : Pattern
places = byte 0x2E · (digit · up_to 2 digit)

places-match : (n : ℕ) → Matches places (ascii "." ++ three_digits n)
unfolding is_one_of any
places-match n =
    one-after-other (byte 0x2E) (digit · up_to 2 digit) (ascii ".") (three_digits n) (0x2E, (refl, refl))
    (some-digits 2 (three_digits n) (three-digits n) (omega arith) (omega arith))

size-matches : (n : ℕ) → n ≤ 99999999 → Matches (digit · (up_to 4 digit · optional places)) (size_text n)
size-matches n h =
    digits-then 4 (optional places) (decimal (n / 1000)) (ascii "." ++ three_digits n) (decimal-digits (n / 1000))
    (count-some (n / 1000)) (count_most 4 (n / 1000) (omega arith)) (inl (places-match n))

mwh-matches : (z : ℤ) → nat_abs z ≤ 99999999 → Matches mwh (mwh_text z)
unfolding mwh_text is_one_of any
mwh-matches (pos n) h = ([], (size_text n, (refl, (inr refl, size-matches n h))))
mwh-matches (negsuc n) h = (ascii "-", (size_text (suc n), (refl, (inl (0x2D, (refl, refl)), size-matches (suc n) h))))

-- ---- records

abbrev numbers : Pattern
numbers = spelled period · comma · spelled mwh

entry-matches : (e : Entry contracts) → writable e ≡ true → Matches numbers (entry_text e)
unfolding entry_text is_one_of any
entry-matches e w =
    one-after-other (spelled period) (comma · spelled mwh) (decimal e.period) (ascii "," ++ mwh_text e.volume)
    (inl (period-matches (decimal e.period) (decimal-digits e.period) (count-some e.period) (count_most 1 e.period (omega (arith, writable-period e w)))))
    (one-after-other comma (spelled mwh) (ascii ",") (mwh_text e.volume) (0x2C, (refl, refl)) (inl (mwh-matches e.volume (writable-volume e w))))

-- In the grammar a line end stands before each record but the first, in the text behind each.
abbrev record_text : Entry contracts → List ℕ
record_text e = ascii "\n" ++ entry_text e

records-match : (es : List (Entry contracts)) → every writable es ≡ true → Each (λ u. Matches (newline · numbers) u) (map record_text es)
unfolding every is_one_of any
records-match [] w = tt
records-match (e ∷ es) w = (
  one-after-other newline numbers (ascii "\n") (entry_text e) (inl (0x0A, (refl, refl))) (entry-matches e (and_left (writable e) (every writable es) w)),
  records-match es (and_right (writable e) (every writable es) w),
)

shifted : (es : List (Entry contracts)) → ascii "\n" ++ join (map entry_line es) ≡ join (map record_text es) ++ ascii "\n"
unfolding join
shifted [] = refl
shifted (e ∷ es) =
    ap (λ (s : List ℕ). 0x0A ∷ s)
    (append_assoc (entry_text e) (ascii "\n") (join (map entry_line es)) ∙ ap (λ (s : List ℕ). entry_text e ++ s) (shifted es)
    ∙ sym (append_assoc (entry_text e) (join (map record_text es)) (ascii "\n")))

-- ---- the file

header-computes : nullable (derives (ascii "period,mwh") header) ≡ true
unfolding nullable derives derive after either is_never is_one_of any
header-computes = refl

header-matches : Matches header (ascii "period,mwh")
header-matches = matches-is header (ascii "period,mwh") header-computes

body-matches : (es : List (Entry contracts)) → every writable es ≡ true → Matches (many (newline · numbers) · optional newline) (ascii "\n" ++ join (map entry_line es))
unfolding is_one_of any
body-matches es w = (join (map record_text es), (ascii "\n", (shifted es, ((map record_text es, (refl, records-match es w)), inl (inl (0x0A, (refl, refl)))))))

pub written-matches : (es : List (Entry contracts)) → every writable es ≡ true → Matches number_file (written es)
unfolding number_file written
written-matches es w =
    one-after-other header (many (newline · numbers) · optional newline) (ascii "period,mwh") (ascii "\n" ++ join (map entry_line es)) header-matches (body-matches es w)

pub written-file : (es : List (Entry contracts)) → every writable es ≡ true → length es ≤ 50 → File valid (written es)
written-file es w h = (written-matches es w, rw (read_back es) h)
