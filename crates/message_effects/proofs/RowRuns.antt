-- A length's row as two runs, and a day's open periods as a run of its row.
use mathlib.Core.Bool.{Bool, true, false}
use mathlib.Core.List.{List, ◌++◌}
use mathlib.Core.Path.{◌≡◌, sym, ap, ◌∙◌}
use Prim.Native.Nat.{ℕ, suc, ◌+◌, ◌-◌, ◌≤◌, ◌<◌}
use native.Mathlib.Omega.{arith}
use lib.Dec.{eqb}
use lib.IntN.{ℤ, pos}
use lib.ListN.{length, get_or, take, drop, length-append, length-drop, get_or-append}
use lib.Seq.{sets, length-take-le, get_or-take, get_or-drop, get_or-append-add}
use borrow.Author.Tests.{le-leb, lt-leb, eqb-true}
use Rattle.laws.proofs.Builds.{is-build}
use Rattle.laws.proofs.Cases.{on, by-lt}
use Rattle.laws.proofs.Stores.{sets-append}
use Rattle.meaning.specs.Time.{Time}
use Rattle.meaning.specs.Messages.{source_of}
use Rattle.message_effects.specs.Placing.{some_day_has, periods_kept, laid_from, laid_volume, placed_on, row_laid}

-- a row begins at 100 at the latest
pub laid-from-most : (periods : ℕ) → laid_from periods ≤ 100
unfolding laid_from
laid-from-most periods = on (eqb periods 46) (λ e. rw e (omega arith)) (λ e. on (eqb periods 48) (λ q. rw (e, q) (omega arith)) (λ q. rw (e, q) (omega arith)))

-- ---- a row as two runs: the periods that keep their number, and the last of the notification's 48

module _ (single : Bool) (periods p : ℕ) where
  source-kept : p < periods_kept single periods → source_of single periods (suc p) ≡ suc p
  unfolding periods_kept source_of
  source-kept h =
      on single
      (λ s. rw s)
      (λ s. on (eqb periods 46)
      (λ e. rw (s, e, le-leb (suc p) 2 (omega (arith, rw (s, e) at h))))
      (λ e. on (eqb periods 50)
      (λ q. rw (s, e, q, le-leb (suc p) 4 (omega (arith, rw (s, e, q) at h))))
      (λ q. rw (s, e, q))))

  source-moved : periods_kept single periods ≤ p → p < periods → source_of single periods (suc p) ≡ suc p + 48 - periods
  unfolding periods_kept source_of
  source-moved h few =
      on single
      (λ s. absurd (omega (arith, rw s at h)))
      (λ s. on (eqb periods 46)
      (λ e. rw (s, e, lt-leb (suc p) 2 (omega (arith, rw (s, e) at h))) (omega (arith, eqb-true periods 46 e)))
      (λ e. on (eqb periods 50)
      (λ q. rw (s, e, q, lt-leb (suc p) 4 (omega (arith, rw (s, e, q) at h))) (omega (arith, eqb-true periods 50 q)))
      (λ q. absurd (omega (arith, rw (s, e, q) at h)))))

pub kept-few : (single : Bool) (periods : ℕ) → (periods_kept single periods ≤ periods) × (periods - periods_kept single periods ≤ 46)
unfolding periods_kept
kept-few single periods =
    on single
    (λ s. rw s (omega arith, omega arith))
    (λ s. on (eqb periods 46)
    (λ e. let z = eqb-true periods 46 e in rw (s, e) (omega arith, omega arith))
    (λ e. on (eqb periods 50)
    (λ q. let z = eqb-true periods 50 q in rw (s, e, q) (omega arith, omega arith))
    (λ q. rw (s, e, q) (omega arith, omega arith))))

module _ (single : Bool) (volumes : List ℤ) (periods : ℕ) (all : length volumes ≡ 50) (most : periods ≤ 50) where
  abbrev kept : ℕ
  kept = periods_kept single periods

  abbrev moved : ℕ
  moved = periods - kept

  abbrev first_run : List ℤ
  first_run = take kept volumes

  abbrev last-run : List ℤ
  last-run = take (48 - (48 - moved)) (drop (48 - moved) volumes)

  length-first : length first_run ≡ kept
  length-first = length-take-le kept volumes (omega (arith, all, kept-few single periods))

  length_last : length last-run ≡ moved
  length_last = length-take-le (48 - (48 - moved)) (drop (48 - moved) volumes) (rw length-drop (omega (arith, all, kept-few single periods))) ∙ omega (arith, kept-few single periods)

  two_runs : first_run ++ last-run ≡ placed_on single volumes periods
  unfolding placed_on
  two_runs =
      is-build periods _ (pos 0) (first_run ++ last-run)
      (length-append first_run last-run ∙ omega (arith, length-first, length_last, kept-few single periods))
      (λ p few.
      by-lt p kept
      (λ h.
      let z : suc p - 1 ≡ p = omega arith in
      get_or-append first_run last-run (pos 0) p (omega (arith, length-first)) ∙ get_or-take kept volumes p (pos 0) h ∙ rw (source-kept single periods p h, z))
      (λ h.
      let at : p ≡ length first_run + (p - kept) = omega (arith, length-first) in
      let z : 48 - moved + (p - kept) ≡ suc p + 48 - periods - 1 = omega (arith, kept-few single periods) in
      ap (λ (k : ℕ). get_or (first_run ++ last-run) k (pos 0)) at
      ∙ get_or-append-add first_run last-run (p - kept) (pos 0)
      ∙ get_or-take (48 - (48 - moved)) (drop (48 - moved) volumes) (p - kept) (pos 0) (omega (arith, kept-few single periods))
      ∙ get_or-drop (48 - moved) volumes (p - kept) (pos 0)
      ∙ rw (source-moved single periods p h few, z)))

  -- the two runs stored one after the other are the row
  pub runs-laid : (t : Time) (laid : List ℤ) → some_day_has t periods ≡ true
      → sets (sets laid (laid_from periods) first_run) (laid_from periods + kept) last-run ≡ row_laid t single volumes periods laid
  unfolding row_laid
  runs-laid t laid h =
      ap (λ (k : ℕ). sets (sets laid (laid_from periods) first_run) (laid_from periods + k) last-run) (sym length-first)
      ∙ sym (sets-append laid (laid_from periods) first_run last-run)
      ∙ rw (h, two_runs)

pub none-laid : (t : Time) (single : Bool) (volumes : List ℤ) (periods : ℕ) (laid : List ℤ) → some_day_has t periods ≡ false → laid ≡ row_laid t single volumes periods laid
unfolding row_laid
none-laid t single volumes periods laid h = rw h

-- ---- a day's open periods as a run of its row

module _ (laid : List ℤ) (periods from : ℕ) (all : length laid ≡ 150) (most : periods ≤ 50) (h : from ≤ periods) where
  abbrev pub open_run : List ℤ
  open_run = take (laid_from periods + from + (periods - from) - (laid_from periods + from)) (drop (laid_from periods + from) laid)

  pub length-open : length open_run ≡ periods - from
  length-open =
      length-take-le (laid_from periods + from + (periods - from) - (laid_from periods + from)) (drop (laid_from periods + from) laid)
      (rw length-drop (omega (arith, all, laid-from-most periods)))
      ∙ omega arith

  pub open-volume : (k : ℕ) → k < periods - from → get_or open_run k (pos 0) ≡ laid_volume laid periods (suc (from + k))
  unfolding laid_volume
  open-volume k few =
      let z : laid_from periods + from + k ≡ laid_from periods + (suc (from + k) - 1) = omega arith in
      get_or-take (laid_from periods + from + (periods - from) - (laid_from periods + from)) (drop (laid_from periods + from) laid) k (pos 0) (omega arith)
      ∙ get_or-drop (laid_from periods + from) laid k (pos 0)
      ∙ rw z
