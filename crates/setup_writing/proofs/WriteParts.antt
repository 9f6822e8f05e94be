-- What writing a setup leaves, part by part: one turn of each loop, and that the parts one after the other are the packed setup.
use mathlib.Core.Bool.{true}
use mathlib.Core.List.{List, [], ◌∷◌, ◌++◌}
use mathlib.Core.Path.{◌≡◌, refl, sym, ap, ◌∙◌}
use Prim.Native.Nat.{ℕ, zero, suc, ◌+◌, ◌*◌, ◌≤◌, min}
use native.Mathlib.Nat.{zero-add}
use native.Mathlib.Numerals.{add-one}
use native.Mathlib.Omega.{arith}
use lib.ListN.{length, get_or}
use borrow.Author.Tests.{lt-ltb, le-ltb}
use Rattle.std.specs.Prelude.{if◌then◌else◌}
use Rattle.words.specs.Tests.{◌<?◌}
use Rattle.words.specs.Lists.{build}
use Rattle.words.specs.Fields.{set_field, total, times, write_all, fit, padding}
use Rattle.laws.proofs.Cases.{on, by-eq, by-lt}
use Rattle.laws.proofs.Builds.{length-build}
use Rattle.laws.proofs.Fields.{set-field-length}
use Rattle.laws.proofs.Layouts.{fit_length, times-length, times-total, write-append, write-length}
use Rattle.laws.proofs.FieldLoops.{write-times-more}
use Rattle.laws.proofs.Builds.{build-next}
use Rattle.meaning.specs.Authorisations as Meaning
use Rattle.meaning.specs.PackedMessages.{packed_into}
use Rattle.meaning.specs.PackedSetups.{head_layout, row_layout, setup_layout_for, setup_layout, setup_values, row_values}
use Rattle.setups.specs.Structs.{no_authorisation, row_of, rows_of, codes_of, setup_of}
use Rattle.setup_writing.specs.Writing.{codes_into, row_into, rows_into, setup_into}
use Rattle.setups.specs.declared.Authorisation.{Authorisation}
use Rattle.setups.specs.declared.Setup.{Setup}
use Rattle.meaning.proofs.LayoutSizes.{bits-setup}
use Rattle.setups.proofs.SetupHeld.{codes-own, rows-own}
use Rattle.setup_writing.proofs.ValuesFit.{Counted, cells, layout-own}

row-into-length : (a : Authorisation) (at : ℕ) (out : List ℕ) → length (row_into a at out) ≡ length out
unfolding row_into
row-into-length a at out = write-length out at row_layout (cells (row_of a))

row-values-more : (rows : List Meaning.Authorisation) (a : Meaning.Authorisation) → row_values (rows ++ (a ∷ [])) ≡ row_values rows ++ cells a
unfolding row_values
row-values-more [] a = refl
row-values-more (r ∷ rows) a = ap (λ (vs : List ℕ). cells r ++ vs) (row-values-more rows a)

row-values-length : (rows : List Meaning.Authorisation) → length (row_values rows) ≡ length rows * 8
unfolding row_values
row-values-length [] = refl
row-values-length (r ∷ rows) = omega (arith, row-values-length rows)

module _ (s : Setup) (out : List ℕ) where
  -- ---- codes

  pub codes-into-none : codes_into s out 0 ≡ out
  unfolding codes_into
  codes-into-none = refl

  pub codes-into-more : (d : ℕ) → codes_into s out (d + 1)
      ≡ (if d <? s.days then set_field (codes_into s out d) (34 + 2 * d) 2 (get_or s.codes d 0) else codes_into s out d)
  unfolding codes_into
  codes-into-more d = rw add-one

  pub codes-into-length : (d : ℕ) → length (codes_into s out d) ≡ length out
  unfolding codes_into
  codes-into-length zero = refl
  codes-into-length (suc d) =
      on (d <? s.days)
      (λ e. rw e (set-field-length (codes_into s out d) (34 + 2 * d) 2 (get_or s.codes d 0) ∙ codes-into-length d))
      (λ e. rw e (codes-into-length d))

  -- ---- rows

  pub rows-into-none : rows_into s out 0 ≡ out
  unfolding rows_into
  rows-into-none = refl

  pub rows-into-more : (k : ℕ) → rows_into s out (k + 1)
      ≡ (if k <? s.authorisations
      then row_into (get_or s.rows k no_authorisation) (total (setup_layout_for s.days k)) (rows_into s out k)
      else rows_into s out k)
  unfolding rows_into
  rows-into-more k = rw add-one

  pub rows-into-length : (k : ℕ) → length (rows_into s out k) ≡ length out
  unfolding rows_into
  rows-into-length zero = refl
  rows-into-length (suc k) =
      on (k <? s.authorisations)
      (λ e. rw e (row-into-length (get_or s.rows k no_authorisation) (total (setup_layout_for s.days k)) (rows_into s out k) ∙ rows-into-length k))
      (λ e. rw e (rows-into-length k))

  -- ---- the codes as one layout

  codes-step : (d : ℕ) → write_all out 34 (times (d + 1) (2 ∷ [])) (codes_of (d + 1) s.codes)
      ≡ set_field (write_all out 34 (times d (2 ∷ [])) (codes_of d s.codes)) (34 + 2 * d) 2 (get_or s.codes d 0)
  unfolding codes_of
  codes-step d =
      let f : ℕ → ℕ = λ (k : ℕ). get_or s.codes k 0 in
      let e : 34 + d * 2 ≡ 34 + 2 * d = omega arith in
      rw (build-next d f)
      (write-times-more out 34 d (2 ∷ []) (build d f) (f d ∷ []) (omega (arith, length-build d f))
      ∙ ap (λ (q : ℕ). set_field (write_all out 34 (times d (2 ∷ [])) (build d f)) q 2 (f d)) e)

  codes-are : (d : ℕ) → d ≤ s.days → codes_into s out d ≡ write_all out 34 (times d (2 ∷ [])) (codes_of d s.codes)
  unfolding codes_into
  codes-are zero h = refl
  codes-are (suc d) h =
      rw (lt-ltb d s.days h)
      (ap (λ (t : List ℕ). set_field t (34 + 2 * d) 2 (get_or s.codes d 0)) (codes-are d (omega arith))
      ∙ sym (codes-step d)
      ∙ ap (λ (k : ℕ). write_all out 34 (times k (2 ∷ [])) (codes_of k s.codes)) (add-one d))

  -- turns past the last day write nothing
  codes-past : (n : ℕ) → s.days ≤ n → codes_into s out n ≡ codes_into s out s.days
  unfolding codes_into
  codes-past zero h = let e : s.days ≡ 0 = omega arith in ap (codes_into s out) (sym e)
  codes-past (suc n) h =
      by-eq s.days (suc n)
      (λ e. ap (codes_into s out) (sym e))
      (λ e. rw (le-ltb n s.days (omega arith)) (codes-past n (omega arith)))

  -- a loop that ends with the days, or with the eighth place
  pub codes-capped : (d : ℕ) → d ≡ min s.days 8 → codes_into s out d ≡ codes_into s out 8
  codes-capped d e =
      by-lt 8 s.days
      (λ h. let q : d ≡ 8 = omega arith in ap (codes_into s out) q)
      (λ h. let q : d ≡ s.days = omega arith in ap (codes_into s out) q ∙ sym (codes-past 8 h))

  -- ---- the rows as one layout

  rows_step : (k : ℕ) → write_all out (34 + 2 * s.days) (times (k + 1) row_layout) (row_values (rows_of (k + 1) s.rows))
      ≡ row_into (get_or s.rows k no_authorisation) (total (setup_layout_for s.days k)) (write_all out (34 + 2 * s.days) (times k row_layout) (row_values (rows_of k s.rows)))
  unfolding rows_of row_into
  rows_step k =
      let f : ℕ → Meaning.Authorisation = λ (j : ℕ). row_of (get_or s.rows j no_authorisation) in
      let p : ℕ = 34 + 2 * s.days in
      let e : p + k * 78 ≡ total (setup_layout_for s.days k) = omega (arith, bits-setup s.days k) in
      rw (build-next k f, row-values-more (build k f) (f k))
      (write-times-more out p k row_layout (row_values (build k f)) (cells (f k)) (row-values-length (build k f) ∙ omega (arith, length-build k f))
      ∙ ap (λ (q : ℕ). write_all (write_all out p (times k row_layout) (row_values (build k f))) q row_layout (cells (f k))) e)

  rows_are : (k : ℕ) → k ≤ s.authorisations → rows_into s out k ≡ write_all out (34 + 2 * s.days) (times k row_layout) (row_values (rows_of k s.rows))
  unfolding rows_into
  rows_are zero h = refl
  rows_are (suc k) h =
      rw (lt-ltb k s.authorisations h)
      (ap (λ (t : List ℕ). row_into (get_or s.rows k no_authorisation) (total (setup_layout_for s.days k)) t) (rows_are k (omega arith))
      ∙ sym (rows_step k)
      ∙ ap (λ (j : ℕ). write_all out (34 + 2 * s.days) (times j row_layout) (row_values (rows_of j s.rows))) (add-one k))

  rows-past : (n : ℕ) → s.authorisations ≤ n → rows_into s out n ≡ rows_into s out s.authorisations
  unfolding rows_into
  rows-past zero h = let e : s.authorisations ≡ 0 = omega arith in ap (rows_into s out) (sym e)
  rows-past (suc n) h =
      by-eq s.authorisations (suc n)
      (λ e. ap (rows_into s out) (sym e))
      (λ e. rw (le-ltb n s.authorisations (omega arith)) (rows-past n (omega arith)))

  pub rows-capped : (k : ℕ) → k ≡ min s.authorisations 64 → rows_into s out k ≡ rows_into s out 64
  rows-capped k e =
      by-lt 64 s.authorisations
      (λ h. let q : k ≡ 64 = omega arith in ap (rows_into s out) q)
      (λ h. let q : k ≡ s.authorisations = omega arith in ap (rows_into s out) q ∙ sym (rows-past 64 h))

-- ---- the whole

module _ (s : Setup) (out : List ℕ) where
  abbrev head : List ℕ
  head = write_all out 0 head_layout (s.first ∷ s.days ∷ s.accounts ∷ s.authorisations ∷ [])

  pub setup-into-length : length (setup_into s out) ≡ length out
  unfolding setup_into
  setup-into-length =
      let ws : List ℕ = setup_layout_for s.days s.authorisations in
      set-field-length (rows_into s (codes_into s head 8) 64) (total ws) (padding ws) 0
      ∙ rows-into-length s (codes_into s head 8) 64
      ∙ codes-into-length s head 8
      ∙ write-length out 0 head_layout (s.first ∷ s.days ∷ s.accounts ∷ s.authorisations ∷ [])

  values-own : setup_values (setup_of s)
      ≡ s.first ∷ s.days ∷ s.accounts ∷ s.authorisations ∷ (codes_of s.days s.codes ++ row_values (rows_of s.authorisations s.rows))
  unfolding setup_values setup_of
  values-own = rw (codes-own, rows-own)

  parts_are : Counted s → rows_into s (codes_into s head 8) 64 ≡ write_all out 0 (setup_layout (setup_of s)) (setup_values (setup_of s))
  unfolding setup_layout_for
  parts_are n =
      let d : ℕ = s.days in
      let k : ℕ = s.authorisations in
      let cs : List ℕ = codes_of d s.codes in
      let vs : List ℕ = row_values (rows_of k s.rows) in
      let e : 34 + total (times d (2 ∷ [])) ≡ 34 + 2 * d = omega (arith, times-total d (2 ∷ [])) in
      let l : length (times d (2 ∷ [])) ≡ length cs = omega (arith, times-length d (2 ∷ []), codes-own d s.codes) in
      rows-past s (codes_into s head 8) 64 n.rows
      ∙ rows_are s (codes_into s head 8) k (omega arith)
      ∙ ap (λ (t : List ℕ). write_all t (34 + 2 * d) (times k row_layout) vs) (codes-past s head 8 n.days ∙ codes-are s head d (omega arith))
      ∙ ap (λ (q : ℕ). write_all (write_all head 34 (times d (2 ∷ [])) cs) q (times k row_layout) vs) (sym e)
      ∙ sym (write-append head 34 (times d (2 ∷ [])) cs (times k row_layout) vs l)
      ∙ rw (layout-own s, values-own)

  -- a setup whose values fit, written part by part, is the packed setup
  pub setup-into-packed : Counted s → fit (setup_layout (setup_of s)) (setup_values (setup_of s)) ≡ true
      → setup_into s out ≡ packed_into out (setup_layout (setup_of s)) (setup_values (setup_of s))
  unfolding setup_into packed_into
  setup-into-packed n f =
      let ws : List ℕ = setup_layout (setup_of s) in
      let vs : List ℕ = setup_values (setup_of s) in
      rw (parts_are n, ← layout-own s)
      (sym (write-append out 0 ws vs (padding ws ∷ []) (0 ∷ []) (fit_length ws vs f) ∙ rw zero-add))
