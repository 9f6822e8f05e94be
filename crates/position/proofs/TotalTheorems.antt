-- What the answers of `position` are worth: totals balance over all accounts, a day of totals is refused exactly and is its periods' totals, and
-- the net figure is the exact difference; each whole number is converted exactly.
use mathlib.Core.Bool.{true, false}
use mathlib.Core.List.{List}
use mathlib.Core.Logic.{◌≢◌}
use mathlib.Core.Path.{◌≡◌, refl, sym, ap, ◌∙◌}
use Prim.Native.Nat.{ℕ, suc, ◌≤◌, ◌<◌}
use native.Mathlib.Omega.{arith}
use lib.Dec.{eqb}
use lib.Ieee.{fin, binary64, of_int, to_signed}
use lib.IntN.{ℤ, pos, ◌-ℤ◌}
use lib.ListN.{length, get_or}
use borrow.Author.Tests.{eq-eqb, ne_eqb}
use Rattle.words.specs.Below.{sum_belowℤ}
use Rattle.words.specs.Rules.{answer}
use Rattle.laws.proofs.Fronts.{front_at, front-past}
use Rattle.laws.proofs.Rules.{number_at, Exactly, exactly}
use Rattle.laws.proofs.Sums.{sum-ext}
use Rattle.meaning.specs.Time.{day_of}
use Rattle.meaning.specs.Ledgers.{contracts}
use Rattle.meaning.specs.Books as Meaning
use Rattle.meaning.specs.Totals.{mwh, sold, bought, total, figures_rules, figures}
use Rattle.meaning.proofs.Totals.{totals-zero-always, never-26}
use Rattle.meaning.proofs.Figures.{net-is-difference, zero-positive}
use Rattle.book.specs.declared.Book.{Book}
use Rattle.book.specs.Structs.{book_of}
use Rattle.figures.proofs.MwhLaws.{converted-exactly}
use Rattle.position.specs.Counting.{part_of}
use Rattle.position.specs.Totals.{totalled, day_periods, day_total_rules, day_totals, figured}
use Rattle.position.specs.declared.Totalled.{Totalled}
use Rattle.position.specs.declared.Figured.{Figured}
use Rattle.position.proofs.TotalLaws.{asked, day-asked, sum-is-total}
use Rattle.position.proofs.FigureLaws.{abs-difference, day-sum-small}

module _ (b : Book) (held : List ℕ) (side1 side2 : List ℤ) where
  abbrev before : Meaning.Book contracts
  before = book_of b held side1 side2

  -- ---- totals

  -- what `total` answers to each account in one period comes to zero, sound book or not: a refused total is 0
  pub totals-balance : (D period : ℕ) (r : ℕ → Totalled) → ((account : ℕ) → account < b.setup.accounts → r account ≡ totalled before account D period)
      → sum_belowℤ b.setup.accounts (λ (account : ℕ). (r account).kwh) ≡ pos 0
  unfolding totalled
  totals-balance D period r h =
      sum-ext b.setup.accounts (λ (account : ℕ). (r account).kwh) (λ (account : ℕ). total before account D period) (λ account l. ap (λ (t : Totalled). t.kwh) (h account l))
      ∙ totals-zero-always before D period

  -- no book has volumes enough for 26
  pub total-never-26 : (account D period : ℕ) (r : Totalled) → r ≡ totalled before account D period → r.answer ≢ 26
  unfolding totalled
  total-never-26 account D period r e q = never-26 before account D period (sym (ap (λ (t : Totalled). t.answer) e) ∙ q)

  -- ---- a day's totals

  -- demand 2, "exactly", as for each question that document 01 names (meaning, Exactly.antt): answer k comes if and only if its condition holds and
  -- no earlier one of 1, 15, 16, 24 does
  pub day-totals-exactly : (account D room : ℕ) → Exactly (day_total_rules before account D room)
  unfolding figures_rules day_total_rules
  day-totals-exactly account D room = exactly (day_total_rules before account D room) refl

  -- the four numbers themselves, in their order
  pub day-totals-order : (account D room : ℕ) → let rules = day_total_rules before account D room in
      (number_at rules 0 ≡ 1) × (number_at rules 1 ≡ 15) × (number_at rules 2 ≡ 16) × (number_at rules 3 ≡ 24)
  unfolding figures_rules day_total_rules
  day-totals-order account D room = (refl, refl, refl, refl)

  module _ (account D : ℕ) (lent : List ℤ) (done : answer (day_total_rules before account D (length lent)) ≡ 0) where
    -- each place of the day holds what `total` answers of its period, and every other place what it held
    pub day-total-is-total : (p : ℕ) → p < day_periods before D → p < length lent → get_or (day_totals before account D lent) p (pos 0) ≡ (totalled before account D (suc p)).kwh
    unfolding day_totals totalled
    day-total-is-total p h l =
        rw (eq-eqb (answer (day_total_rules before account D (length lent))) 0 done)
        (front_at (day_periods before D) (λ (q : ℕ) (old : ℤ). total before account D (suc q)) lent (pos 0) p h l)

    pub past-the-day-stays : (p : ℕ) → day_periods before D ≤ p → p < length lent → get_or (day_totals before account D lent) p (pos 0) ≡ get_or lent p (pos 0)
    unfolding day_totals
    past-the-day-stays p h l =
        rw (eq-eqb (answer (day_total_rules before account D (length lent))) 0 done)
        (front-past (day_periods before D) (λ (q : ℕ) (old : ℤ). total before account D (suc q)) lent (pos 0) p h l)

  -- ---- the day's figures

  abbrev Converts : ℤ → Type 0
  Converts kwh = to_signed 63 (of_int binary64 kwh) ≡ kwh

  module _ (account D : ℕ) (r : Figured) (promise : r ≡ figured before account D) where
    abbrev d : ℕ
    d = day_of before.setting.time D

    given : r.answer ≡ 0 → eqb (answer (figures_rules before account D)) 0 ≡ true
    unfolding figured
    given e = eq-eqb (answer (figures_rules before account D)) 0 (sym (ap (λ (f : Figured). f.answer) promise) ∙ e)

    -- the net figure is the exact difference of the whole sums, converted once
    pub net-is-exact : r.answer ≡ 0 → r.day.net ≡ mwh (sold before account d -ℤ bought before account d)
    unfolding figured figures
    net-is-exact e = ap (λ (f : Figured). f.day.net) promise ∙ rw (given e)

    -- and so it is the totals of the day's periods together, converted once
    pub net-is-totals : r.answer ≡ 0 → r.day.net ≡ mwh (sum_belowℤ (day_periods before D) (λ (p : ℕ). total before account D (suc p)))
    unfolding figured
    net-is-totals e =
        net-is-exact e
        ∙ ap mwh
        (net-is-difference before account d
        ∙ sum-ext (day_periods before D) _ _ (λ p h. sum-is-total before account D (asked before account D (sym (sym (ap (λ (f : Figured). f.answer) promise) ∙ e))) p h))

    -- "converted exactly": the three whole sums, made floats, are still those numbers
    pub sums-converted-exactly : r.answer ≡ 0
        → Converts (sold before account d) × Converts (bought before account d) × Converts (sold before account d -ℤ bought before account d)
    unfolding figured sold bought part_of
    sums-converted-exactly e =
        let a = day-asked before account D (asked before account D (sym (sym (ap (λ (f : Figured). f.answer) promise) ∙ e))) in
        let most = day-sum-small b held side1 side2 account d a in (
          converted-exactly (sold before account d) (omega (arith, most false)),
          converted-exactly (bought before account d) (omega (arith, most true)),
          converted-exactly (sold before account d -ℤ bought before account d) (omega (arith, most false, most true, abs-difference (sold before account d) (bought before account d))),
        )

    -- with a refusal each figure is positive zero
    pub refused-figures : r.answer ≢ 0
        → (r.day.sold ≡ fin false 0 (pos 0)) × (r.day.bought ≡ fin false 0 (pos 0)) × (r.day.net ≡ fin false 0 (pos 0))
    unfolding figured figures
    refused-figures n =
        let z : eqb (answer (figures_rules before account D)) 0 ≡ false = ne_eqb (answer (figures_rules before account D)) 0 (λ q. n (ap (λ (f : Figured). f.answer) promise ∙ q)) in (
          ap (λ (f : Figured). f.day.sold) promise ∙ rw z zero-positive,
          ap (λ (f : Figured). f.day.bought) promise ∙ rw z zero-positive,
          ap (λ (f : Figured). f.day.net) promise ∙ rw z zero-positive,
        )
