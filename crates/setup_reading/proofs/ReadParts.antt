-- The struct that reading makes is the one for the setup that the bytes hold, and what the rules ask of the one they ask of the other.
use mathlib.Core.Bool.{Bool, true, false, ◌&&◌, ◌||◌}
use mathlib.Core.List.{List, [], ◌∷◌, ◌++◌}
use mathlib.Core.Logic.{◌≢◌}
use mathlib.Core.Path.{◌≡◌, refl, sym, ap, ◌∙◌}
use Prim.Native.Nat.{ℕ, zero, suc, ◌+◌, ◌*◌, ◌≤◌, ◌<◌}
use native.Mathlib.Nat.{add-zero}
use native.Mathlib.Omega.{arith}
use lib.ListN.{length, get_or, get_or-eq_default}
use lib.Seq.{drop_at, take_at}
use borrow.Author.Tests.{leb-true, lt-ltb, le-ltb, ne_eqb, not-false}
use Rattle.std.specs.Prelude.{if◌then◌else◌}
use Rattle.words.specs.Tests.{◌<?◌, ◌≤?◌, between}
use Rattle.words.specs.Lists.{build}
use Rattle.words.specs.Rules.{answer}
use Rattle.words.specs.Fields.{bytes_for, field_at, total, times, read_all}
use Rattle.laws.proofs.Cases.{and_left, and_right, by-lt, or_left}
use Rattle.laws.proofs.Builds.{build-same, get_or-build, is-build}
use Rattle.laws.proofs.Layouts.{read-append, read_length, times-length, times-total}
use Rattle.meaning.specs.Authorisations as Meaning
use Rattle.meaning.specs.Books as Books
use Rattle.meaning.specs.Books.{counts_wrong, last_day_wrong, lent_wrong}
use Rattle.meaning.specs.PackedSetups.{read_by, read_setup, row_layout, rows_from, setup_from, setup_in, setup_layout_for, setup_layout_in, setup_reading_rules}
use Rattle.meaning.proofs.PackedSetupRules.{setup-reading-done}
use Rattle.meaning.proofs.SetupValues.{row-at, rows-count}
use Rattle.setups.specs.declared.Setup.{Setup}
use Rattle.setup_reading.specs.declared.SetupRead.{SetupRead}
use Rattle.setups.specs.Structs.{codes_of, no_authorisation, no_setup_struct, row_for, row_of, rows_of, setup_for, setup_of}
use Rattle.setup_reading.specs.Structs.{setup_read}
use Rattle.setup_reading.specs.Parts.{codes_in, row_in, rows_in, setup_struct_in}
use Rattle.meaning.proofs.LayoutSizes.{bits-setup}
use Rattle.setups.proofs.SetupHeld.{codes-own, rows-own}

-- ---- counts that are not wrong

module _ (x : Books.Setup) (e : counts_wrong x ≡ false) where
  abbrev days_right : Bool
  days_right = between 1 8 (length x.codes)

  abbrev accounts_right : Bool
  accounts_right = between 2 64 x.accounts

  abbrev rows_right : Bool
  rows_right = between 1 64 (length x.rows)

  counts-right : days_right && accounts_right && rows_right ≡ true
  unfolding counts_wrong
  counts-right = not-false (days_right && accounts_right && rows_right) e

  pub few-codes : length x.codes ≤ 8
  few-codes =
      leb-true (length x.codes) 8
      (and_right (1 ≤? length x.codes) (length x.codes ≤? 8)
      (and_left days_right accounts_right (and_left (days_right && accounts_right) rows_right counts-right)))

  pub few-rows : length x.rows ≤ 64
  few-rows =
      leb-true (length x.rows) 64
      (and_right (1 ≤? length x.rows) (length x.rows ≤? 64)
      (and_right (days_right && accounts_right) rows_right counts-right))

-- ---- the struct for a setup

module _ (x : Books.Setup) where
  codes-length : length (setup_of (setup_for x)).codes ≡ length x.codes
  unfolding setup_of setup_for
  codes-length = codes-own (length x.codes) (setup_for x).codes

  rows-length : length (setup_of (setup_for x)).rows ≡ length x.rows
  unfolding setup_of setup_for
  rows-length = rows-own (length x.rows) (setup_for x).rows

  accounts-same : (setup_of (setup_for x)).accounts ≡ x.accounts
  unfolding setup_of setup_for
  accounts-same = refl

  first-same : (setup_of (setup_for x)).first ≡ x.first
  unfolding setup_of setup_for
  first-same = refl

  -- whatever its counts, it has them, its first day and its accounts
  pub counts_same : counts_wrong (setup_of (setup_for x)) ≡ counts_wrong x
  unfolding counts_wrong
  counts_same = rw (codes-length, rows-length, accounts-same)

  pub last-day-same : last_day_wrong (setup_of (setup_for x)) ≡ last_day_wrong x
  unfolding last_day_wrong
  last-day-same = rw (codes-length, first-same)

  pub lent_same : (slots lent1 lent2 : ℕ) → lent_wrong (setup_of (setup_for x)) slots lent1 lent2 ≡ lent_wrong x slots lent1 lent2
  unfolding lent_wrong
  lent_same slots lent1 lent2 = rw codes-length

  codes-held : length x.codes ≤ 8 → (setup_of (setup_for x)).codes ≡ x.codes
  unfolding setup_of setup_for codes_of
  codes-held h =
      sym
      (is-build (length x.codes) (λ (k : ℕ). get_or (setup_for x).codes k 0) 0 x.codes refl
      (λ k l. sym (get_or-build 8 (λ (j : ℕ). get_or x.codes j 0) 0 k (omega arith))))

  rows-held : length x.rows ≤ 64 → (setup_of (setup_for x)).rows ≡ x.rows
  unfolding setup_of setup_for rows_of
  rows-held h =
      sym
      (is-build (length x.rows) (λ (k : ℕ). row_of (get_or (setup_for x).rows k no_authorisation)) Meaning.no_row x.rows refl
      (λ k l. ap row_of (sym (get_or-build 64 (λ (j : ℕ). row_for (get_or x.rows j Meaning.no_row)) no_authorisation k (omega arith)))))

  -- and where they fit it, it holds the setup
  pub struct_holds : length x.codes ≤ 8 → length x.rows ≤ 64 → setup_of (setup_for x) ≡ x
  unfolding setup_of setup_for
  struct_holds h l = λ i. record { first = x.first; codes = codes-held h i; accounts = x.accounts; rows = rows-held l i }

-- ---- what the bytes hold

-- code k of n
code_at : (s : List ℕ) (p n k : ℕ) → k < n → get_or (read_all s p (times n (2 ∷ []))) k 0 ≡ field_at s (p + 2 * k) 2
code_at s p zero k h = absurd (omega arith)
code_at s p (suc n) zero h = ap (λ (q : ℕ). field_at s q 2) (sym (add-zero p))
code_at s p (suc n) (suc k) h =
    let e : p + 2 + 2 * k ≡ p + 2 * suc k = omega arith in
    code_at s (p + 2) n k (omega arith) ∙ ap (λ (q : ℕ). field_at s q 2) e

module _ (s : List ℕ) where
  -- the number of days and of rows that the bytes say, and the fields behind the head
  abbrev days : ℕ
  days = field_at s 16 4

  abbrev count : ℕ
  count = field_at s 27 7

  abbrev code_fields : List ℕ
  code_fields = read_all s 34 (times days (2 ∷ []))

  abbrev rows_start : ℕ
  rows_start = 34 + total (times days (2 ∷ []))

  abbrev row_fields : List ℕ
  row_fields = read_all s rows_start (times count row_layout)

  codes-count : length code_fields ≡ days
  codes-count = read_length s 34 (times days (2 ∷ [])) ∙ times-length days (2 ∷ []) ∙ omega arith

  fields_in : read_all s 0 (setup_layout_in s) ≡ field_at s 0 16 ∷ days ∷ field_at s 20 7 ∷ count ∷ (code_fields ++ row_fields)
  unfolding setup_layout_in setup_layout_for
  fields_in =
      ap (λ (vs : List ℕ). field_at s 0 16 ∷ days ∷ field_at s 20 7 ∷ count ∷ vs)
      (read-append s 34 (times days (2 ∷ [])) (times count row_layout))

  pub parts_in : setup_in s ≡ record { first = field_at s 0 16; codes = code_fields; accounts = field_at s 20 7; rows = rows_from count row_fields }
  unfolding setup_in setup_from
  parts_in =
      rw (fields_in, take_at code_fields row_fields days codes-count, drop_at code_fields row_fields days codes-count)

  codes-in : codes_in s days ≡ build 8 (λ (k : ℕ). get_or code_fields k 0)
  unfolding codes_in
  codes-in =
      build-same 8 (λ (d : ℕ). if d <? days then field_at s (34 + 2 * d) 2 else 0) (λ (k : ℕ). get_or code_fields k 0)
      (λ k h.
      by-lt k days
      (λ l. rw (lt-ltb k days l) (sym (code_at s 34 days k l)))
      (λ l. rw (le-ltb k days l) (sym (get_or-eq_default code_fields 0 {n = k} (rw codes-count l)))))

  row-in : (k : ℕ) → k < count → row_in s days k ≡ row_for (get_or (rows_from count row_fields) k Meaning.no_row)
  unfolding row_in
  row-in k h =
      let e : total (setup_layout_for days k) ≡ rows_start + k * 78 = omega (arith, bits-setup days k, times-total days (2 ∷ [])) in
      rw e (sym (ap row_for (row-at s rows_start count k h)))

  rows-in : rows_in s days count ≡ build 64 (λ (k : ℕ). row_for (get_or (rows_from count row_fields) k Meaning.no_row))
  unfolding rows_in
  rows-in =
      build-same 64 (λ (k : ℕ). if k <? count then row_in s days k else no_authorisation)
      (λ (k : ℕ). row_for (get_or (rows_from count row_fields) k Meaning.no_row))
      (λ k h.
      by-lt k count
      (λ l. rw (lt-ltb k count l) (row-in k l))
      (λ l.
      rw (le-ltb k count l)
      (sym (ap row_for (get_or-eq_default (rows_from count row_fields) Meaning.no_row {n = k} (rw (rows-count count row_fields) l))))))

  -- THE BRIDGE: the struct made of the bytes is the one for the setup that they hold
  pub struct-in : setup_struct_in s ≡ setup_for (setup_in s)
  unfolding setup_struct_in setup_for
  struct-in = rw (parts_in, codes-count, rows-count count row_fields, codes-in, rows-in)

-- nothing is read with a refusal, whatever rules it comes from
pub refused-by : (s : List ℕ) {n m : ℕ} {t : Setup} → n ≡ m → n ≢ 0 → t ≡ no_setup_struct
    → ◌≡◌ {A = SetupRead} (record { answer = n; length = 0; setup = t }) (setup_read (read_by m s))
unfolding setup_read setup_for build
refused-by s {n} {m} {t} p h q = rw (ne_eqb m 0 (λ z. h (p ∙ z))) (λ i. record { answer = p i; length = 0; setup = q i })

-- ---- the rules of reading, asked of the struct

module _ (s : List ℕ) (slots lent1 lent2 : ℕ) where
  -- the three tests of the first 17
  abbrev pub bounds_wrong : Bool
  bounds_wrong = counts_wrong (setup_in s) || last_day_wrong (setup_in s) || lent_wrong (setup_in s) slots lent1 lent2

  module _ (t : Setup) (e : t ≡ setup_struct_in s) where
    same : t ≡ setup_for (setup_in s)
    same = e ∙ struct-in s

    pub bounds-same : {a b c : Bool} → a ≡ counts_wrong (setup_of t) → b ≡ last_day_wrong (setup_of t) → c ≡ lent_wrong (setup_of t) slots lent1 lent2
        → a || b || c ≡ bounds_wrong
    bounds-same {a} {b} {c} p q r =
        rw (p, q, r, same, counts_same (setup_in s), last-day-same (setup_in s), lent_same (setup_in s) slots lent1 lent2)

    -- once they pass it holds the setup
    pub bounds-passed : bounds_wrong ≡ false → setup_of t ≡ setup_in s
    bounds-passed h =
        let a : Bool = counts_wrong (setup_in s) in
        let b : Bool = last_day_wrong (setup_in s) in
        let f : a ≡ false = or_left a b (or_left (a || b) (lent_wrong (setup_in s) slots lent1 lent2) h) in
        rw same (struct_holds (setup_in s) (few-codes (setup_in s) f) (few-rows (setup_in s) f))

    pub layout-same : setup_layout_for t.days t.authorisations ≡ setup_layout_in s
    unfolding setup_struct_in setup_layout_in
    layout-same = rw e

    -- what reading gives, done
    pub read_done : {m : ℕ} → m ≡ bytes_for (setup_layout_for t.days t.authorisations) → answer (setup_reading_rules s slots lent1 lent2) ≡ 0
        → ◌≡◌ {A = SetupRead} (record { answer = 0; length = m; setup = t }) (setup_read (read_setup s slots lent1 lent2))
    unfolding setup_read
    read_done {m} p z =
        rw (setup-reading-done s slots lent1 lent2 z) (λ i. record { answer = 0; length = (p ∙ ap bytes_for layout-same) i; setup = same i })

  -- and refused
  pub read-refused : {n : ℕ} {t : Setup} → n ≡ answer (setup_reading_rules s slots lent1 lent2) → n ≢ 0 → t ≡ no_setup_struct
      → ◌≡◌ {A = SetupRead} (record { answer = n; length = 0; setup = t }) (setup_read (read_setup s slots lent1 lent2))
  unfolding read_setup
  read-refused p h q = refused-by s p h q
