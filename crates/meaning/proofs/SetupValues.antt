-- A setup is the list of the values of its fields: from the values the setup, and from the fields that are read their values again.
use mathlib.Core.List.{List, [], ◌∷◌, ◌++◌}
use mathlib.Core.Path.{◌≡◌, refl, sym, ap, ◌∙◌}
use Prim.Native.Nat.{ℕ, zero, suc, ◌+◌, ◌*◌, ◌<◌}
use native.Mathlib.Nat.{add-zero}
use native.Mathlib.Omega.{arith}
use lib.ListN.{length, drop}
use lib.Seq.{drop-append_seam, drop_at, take-append_seam, take_at}
use Rattle.words.specs.Fields.{field_at, total, times, read_all}
use Rattle.laws.proofs.Layouts.{read-append, read_length, times-length}
use Rattle.meaning.specs.Authorisations.{Authorisation, row_at}
use Rattle.meaning.specs.Books.{Setup}
use Rattle.meaning.specs.PackedSetups.{row_from, row_layout, row_values, rows_from, setup_from, setup_in, setup_layout, setup_layout_for, setup_layout_in, setup_values}

-- ---- rows

pub rows_back : (rows : List Authorisation) → rows_from (length rows) (row_values rows) ≡ rows
unfolding rows_from row_values
rows_back [] = refl
rows_back (a ∷ later) = ap (λ (rest : List Authorisation). a ∷ rest) (rows_back later)

pub rows-count : (n : ℕ) (vs : List ℕ) → length (rows_from n vs) ≡ n
unfolding rows_from
rows-count zero vs = refl
rows-count (suc n) vs = ap suc (rows-count n (drop 8 vs))

pub rows-again : (s : List ℕ) (p n : ℕ) → row_values (rows_from n (read_all s p (times n row_layout))) ≡ read_all s p (times n row_layout)
unfolding rows_from row_values
rows-again s p zero = refl
rows-again s p (suc n) =
    ap (λ (vs : List ℕ). read_all s p row_layout ++ vs) (rows-again s (p + 8 + 8 + 6 + 6 + 16 + 16 + 16 + 2) n)

-- row j, which stands from bit p + j * 78 on
pub row-at : (s : List ℕ) (p n j : ℕ) → j < n → row_at (rows_from n (read_all s p (times n row_layout))) j ≡ row_from (read_all s (p + j * 78) row_layout)
unfolding rows_from
row-at s p zero j h = absurd (omega arith)
row-at s p (suc n) zero h = ap (λ (q : ℕ). row_from (read_all s q row_layout)) (sym (add-zero p))
row-at s p (suc n) (suc j) h =
    let q : ℕ = p + 8 + 8 + 6 + 6 + 16 + 16 + 16 + 2 in
    let e : q + j * 78 ≡ p + suc j * 78 = omega arith in
    row-at s q n j (omega arith) ∙ ap (λ (i : ℕ). row_from (read_all s i row_layout)) e

-- ---- setups

pub setup-back : (x : Setup) → setup_from (setup_values x) ≡ x
unfolding setup_from setup_values
setup-back x =
    rw (take-append_seam x.codes (row_values x.rows), drop-append_seam x.codes (row_values x.rows), rows_back x.rows)

module _ (s : List ℕ) where
  -- the number of days and of rows that the bytes say, and what the fields behind the head are
  abbrev days : ℕ
  days = field_at s 16 4

  abbrev rows : ℕ
  rows = field_at s 27 7

  abbrev codes_in : List ℕ
  codes_in = read_all s 34 (times days (2 ∷ []))

  abbrev rows_in : List ℕ
  rows_in = read_all s (34 + total (times days (2 ∷ []))) (times rows row_layout)

  setup-values-in : read_all s 0 (setup_layout_in s) ≡ field_at s 0 16 ∷ days ∷ field_at s 20 7 ∷ rows ∷ (codes_in ++ rows_in)
  unfolding setup_layout_in setup_layout_for
  setup-values-in =
      ap (λ (vs : List ℕ). field_at s 0 16 ∷ days ∷ field_at s 20 7 ∷ rows ∷ vs) (read-append s 34 (times days (2 ∷ [])) (times rows row_layout))

  codes-count : length codes_in ≡ days
  codes-count = read_length s 34 (times days (2 ∷ [])) ∙ times-length days (2 ∷ []) ∙ omega arith

  setup-in : setup_in s ≡ record { first = field_at s 0 16; codes = codes_in; accounts = field_at s 20 7; rows = rows_from rows rows_in }
  unfolding setup_in setup_from
  setup-in =
      rw (setup-values-in, take_at codes_in rows_in days codes-count, drop_at codes_in rows_in days codes-count)

  pub setup-again : setup_values (setup_in s) ≡ read_all s 0 (setup_layout_in s)
  unfolding setup_values
  setup-again =
      rw (setup-in, setup-values-in, codes-count, rows-count rows rows_in, rows-again s (34 + total (times days (2 ∷ []))) rows)

  pub setup-layout-again : setup_layout (setup_in s) ≡ setup_layout_in s
  unfolding setup_layout setup_layout_in
  setup-layout-again = rw (setup-in, codes-count, rows-count rows rows_in)
