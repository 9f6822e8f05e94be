-- The rows in which a notification's volumes are laid out: what each of them holds, and that a day of the book finds its own.
use mathlib.Core.Bool.{Bool, true}
use mathlib.Core.List.{List}
use mathlib.Core.Path.{◌≡◌, refl, ◌∙◌}
use Prim.Native.Nat.{ℕ, suc, ◌+◌, ◌-◌, ◌≤◌, ◌<◌}
use native.Mathlib.Omega.{arith}
use lib.Dec.{leb, eqb}
use lib.IntN.{ℤ, pos}
use lib.ListN.{length, get_or, replicate, length-replicate}
use lib.Seq.{length-sets}
use borrow.Author.Tests.{le-leb, lt-leb, lt-ltb, le-ltb, eq-eqb}
use Rattle.words.specs.Lists.{build}
use Rattle.laws.proofs.Below.{some-hit}
use Rattle.laws.proofs.Builds.{length-build, get_or-build}
use Rattle.laws.proofs.Cases.{on, by-lt, and-false}
use Rattle.laws.proofs.Stores.{get_d_sets}
use Rattle.meaning.specs.Time.{Time, periods_of_code, periods_at, days}
use Rattle.meaning.specs.Ledgers.{contracts}
use Rattle.meaning.specs.Messages.{Entry, source_of, volume, volume_on}
use Rattle.meaning.proofs.Clock.{periods-le}
use Rattle.meaning.proofs.Placed.{source-within, single-stays}
use Rattle.message_effects.specs.Placing.{some_day_has, laid_from, laid_volume, placed_on, row_laid, laid_out}

-- ---- one row

module _ (t : Time) (single : Bool) (volumes : List ℤ) (periods : ℕ) (laid : List ℤ) where
  pub length-row : length (row_laid t single volumes periods laid) ≡ length laid
  unfolding row_laid
  length-row =
      on (some_day_has t periods)
      (λ h. rw h (length-sets laid (laid_from periods) (placed_on single volumes periods)))
      (λ h. rw h)

  length-placed : length (placed_on single volumes periods) ≡ periods
  unfolding placed_on
  length-placed = length-build periods _

  -- a place of the row holds the volume of its source
  row-own : some_day_has t periods ≡ true → (p : ℕ) → p < periods → laid_from periods + p < length laid
      → get_or (row_laid t single volumes periods laid) (laid_from periods + p) (pos 0) ≡ get_or volumes (source_of single periods (suc p) - 1) (pos 0)
  unfolding row_laid placed_on
  row-own h p few inside =
      let at = laid_from periods + p in
      let z : at - laid_from periods ≡ p = omega arith in
      rw h
      (get_d_sets laid (laid_from periods) (placed_on single volumes periods) at (pos 0) inside
      ∙ rw (le-leb (laid_from periods) at (omega arith), lt-ltb at (laid_from periods + length (placed_on single volumes periods)) (omega (arith, length-placed)), z)
      (get_or-build periods _ (pos 0) p few))

  -- a place of another row stays
  row_other : (k : ℕ) → k < length laid → (laid_from periods ≤ k → laid_from periods + periods ≤ k)
      → get_or (row_laid t single volumes periods laid) k (pos 0) ≡ get_or laid k (pos 0)
  unfolding row_laid
  row_other k inside apart =
      on (some_day_has t periods)
      (λ h.
      rw h
      (get_d_sets laid (laid_from periods) (placed_on single volumes periods) k (pos 0) inside
      ∙ by-lt k (laid_from periods)
      (λ w. rw (lt-leb (laid_from periods) k w))
      (λ w. rw (le-ltb k (laid_from periods + length (placed_on single volumes periods)) (omega (arith, length-placed, apart w)), and-false (leb (laid_from periods) k)))))
      (λ h. rw h)

-- ---- the three rows

module _ (t : Time) (single : Bool) (volumes : List ℤ) where
  abbrev none : List ℤ
  none = replicate 150 (pos 0)

  abbrev short : List ℤ
  short = row_laid t single volumes 46 none

  abbrev plain : List ℤ
  plain = row_laid t single volumes 48 short

  all_short : length short ≡ 150
  all_short = length-row t single volumes 46 none ∙ length-replicate 150 (pos 0)

  all_plain : length plain ≡ 150
  all_plain = length-row t single volumes 48 short ∙ all_short

  short_row : some_day_has t 46 ≡ true → (p : ℕ) → p < 46
      → get_or (laid_out t single volumes) (laid_from 46 + p) (pos 0) ≡ get_or volumes (source_of single 46 (suc p) - 1) (pos 0)
  unfolding laid_out laid_from
  short_row h p few =
      row_other t single volumes 50 plain (laid_from 46 + p) (omega (arith, all_plain)) (λ w. omega arith)
      ∙ row_other t single volumes 48 short (laid_from 46 + p) (omega (arith, all_short)) (λ w. omega arith)
      ∙ row-own t single volumes 46 none h p few (omega (arith, length-replicate 150 (pos 0)))

  plain_row : some_day_has t 48 ≡ true → (p : ℕ) → p < 48
      → get_or (laid_out t single volumes) (laid_from 48 + p) (pos 0) ≡ get_or volumes (source_of single 48 (suc p) - 1) (pos 0)
  unfolding laid_out laid_from
  plain_row h p few =
      row_other t single volumes 50 plain (laid_from 48 + p) (omega (arith, all_plain)) (λ w. omega arith)
      ∙ row-own t single volumes 48 short h p few (omega (arith, all_short))

  long-row : some_day_has t 50 ≡ true → (p : ℕ) → p < 50
      → get_or (laid_out t single volumes) (laid_from 50 + p) (pos 0) ≡ get_or volumes (source_of single 50 (suc p) - 1) (pos 0)
  unfolding laid_out laid_from
  long-row h p few =
      row-own t single volumes 50 plain h p few (omega (arith, all_plain))

module _ (t : Time) (single : Bool) (volumes : List ℤ) (d : ℕ) (hd : d < days t) where
  has-its-length : (periods : ℕ) → periods_at t.codes d ≡ periods → some_day_has t periods ≡ true
  unfolding some_day_has
  has-its-length periods e = some-hit (days t) _ d hd (eq-eqb (periods_at t.codes d) periods e)

  -- a day of the book finds what the notification places on its periods
  row-code : (code p : ℕ) → periods_at t.codes d ≡ periods_of_code code → p < periods_of_code code
      → get_or (laid_out t single volumes) (laid_from (periods_of_code code) + p) (pos 0) ≡ get_or volumes (source_of single (periods_of_code code) (suc p) - 1) (pos 0)
  unfolding periods_of_code
  row-code code p own few =
      on (eqb code 0)
      (λ e. rw e (short_row t single volumes (has-its-length 46 (rw e at own)) p (rw e at few)))
      (λ e. on (eqb code 1)
      (λ q. rw (e, q) (plain_row t single volumes (has-its-length 48 (rw (e, q) at own)) p (rw (e, q) at few)))
      (λ q. on (eqb code 2)
      (λ w. rw (e, q, w) (long-row t single volumes (has-its-length 50 (rw (e, q, w) at own)) p (rw (e, q, w) at few)))
      (λ w. absurd (omega (arith, rw (e, q, w) at few)))))

  row-volume : (period : ℕ) → 1 ≤ period → period ≤ periods_at t.codes d
      → laid_volume (laid_out t single volumes) (periods_at t.codes d) period
      ≡ get_or volumes (source_of single (periods_at t.codes d) period - 1) (pos 0)
  unfolding laid_volume periods_at
  row-volume period low high =
      let z : suc (period - 1) ≡ period = omega arith in
      row-code (get_or t.codes d 0) (period - 1) refl (omega arith) ∙ rw z

-- ---- what a notification gives, laid out

abbrev pub own_volumes : List (Entry contracts) → List ℤ
own_volumes entries = build 50 (λ (p : ℕ). volume entries (suc p))

module _ (t : Time) (single : Bool) (entries : List (Entry contracts)) where
  own-volume : (source : ℕ) → 1 ≤ source → source ≤ 50 → get_or (own_volumes entries) (source - 1) (pos 0) ≡ volume entries source
  own-volume source low high =
      let z : suc (source - 1) ≡ source = omega arith in
      get_or-build 50 _ (pos 0) (source - 1) (omega arith) ∙ rw z

  source-inside : (code period : ℕ) → periods_of_code code ≤ 50 → 1 ≤ period → period ≤ periods_of_code code
      → (1 ≤ source_of single (periods_of_code code) period) × (source_of single (periods_of_code code) period ≤ 50)
  source-inside code period few low high =
      on single
      (λ s. rw (s, single-stays (periods_of_code code) period) (low, omega arith))
      (λ s. let w = source-within code period low high in rw s (w.0, omega (arith, w.1)))

  pub laid-given : (d period : ℕ) → d < days t → 1 ≤ period → period ≤ periods_at t.codes d
      → laid_volume (laid_out t single (own_volumes entries)) (periods_at t.codes d) period ≡ volume_on single entries (periods_at t.codes d) period
  unfolding periods_at volume_on
  laid-given d period hd low high =
      let w = source-inside (get_or t.codes d 0) period (periods-le t.codes d) low high in
      row-volume t single (own_volumes entries) d hd period low high ∙ own-volume (source_of single (periods_of_code (get_or t.codes d 0)) period) w.0 w.1
