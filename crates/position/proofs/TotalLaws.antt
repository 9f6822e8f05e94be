-- What a slot counts, by its place in the tables; when a question of a day is refused; and what a total then answers.
use mathlib.Core.Bool.{true, false}
use mathlib.Core.List.{List}
use mathlib.Core.Logic.{◌≢◌}
use mathlib.Core.Path.{◌≡◌, refl, sym, ◌∙◌}
use Prim.Native.Nat.{ℕ, suc, ◌≤◌, ◌<◌}
use native.Mathlib.Omega.{arith}
use lib.Dec.{leb, ltb}
use lib.IntN.{ℤ, pos}
use lib.ListN.{length, get_or}
use borrow.Author.Tests.{leb-true, le-leb, ltb-true, lt-ltb, le-ltb, ne_eqb, not-false}
use Rattle.words.specs.Tests.{within}
use Rattle.words.specs.Lists.{on_front}
use Rattle.words.specs.Rules.{Rule, answer}
use Rattle.laws.proofs.Cases.{on, and_left, and_right}
use Rattle.laws.proofs.Fronts.{front_same}
use Rattle.laws.proofs.Rules.{answer-none, earlier-answers}
use Rattle.meaning.specs.Time.{is_period_at, days, day_of, has_day, is_period}
use Rattle.meaning.specs.Ledgers.{contracts, index, at, origin_in}
use Rattle.meaning.specs.Books as Meaning
use Rattle.meaning.specs.Settings.{has_account}
use Rattle.meaning.specs.Soundness.{sound}
use Rattle.meaning.specs.Totals.{counted, sum_of, total_rules, total, figures_rules}
use Rattle.meaning.proofs.Totals.{total-answer, total-is-sum, total-refused}
use Rattle.book.specs.declared.Book.{Book}
use Rattle.book.specs.Structs.{rows_in, book_of}
use Rattle.book.proofs.SoundParts.{codes-count}
use Rattle.position.specs.Counting.{DayAsked, counted_at, sum_answered}
use Rattle.position.specs.Totals.{totalled, day_periods, day_total_rules, day_totals}

-- ---- what a slot counts

pub counted-by-place : (b : Book) (held : List ℕ) (side1 side2 : List ℤ) (account d p slot : ℕ)
    → counted (book_of b held side1 side2) account d (suc p) slot ≡ counted_at (origin_in (rows_in b.setup) (get_or held slot 0)) account side1 side2 (index b.setup.days slot d (suc p))
unfolding counted counted_at at
counted-by-place b held side1 side2 account d p slot = rw (codes-count b)

-- ---- a question of a day

module _ (b : Meaning.Book contracts) (account D : ℕ) where
  pub unsound-refused : sound b ≡ false → 1 ≡ answer (figures_rules b account D)
  unfolding answer figures_rules
  unsound-refused s = rw s

  pub account-refused : sound b ≡ true → has_account b.setting account ≡ false → 15 ≡ answer (figures_rules b account D)
  unfolding answer figures_rules
  account-refused s a = rw (s, a)

  pub day-refused : sound b ≡ true → has_account b.setting account ≡ true → has_day b.setting.time D ≡ false → 16 ≡ answer (figures_rules b account D)
  unfolding answer figures_rules
  day-refused s a h = rw (s, a, h)

  pub none-refuses : sound b ≡ true → has_account b.setting account ≡ true → has_day b.setting.time D ≡ true → 0 ≡ answer (figures_rules b account D)
  unfolding answer figures_rules
  none-refuses s a h = rw (s, a, h)

  -- what holds where it is not refused
  pub record Asked : Type 0 where
    pub is-sound : sound b ≡ true
    pub has-account : has_account b.setting account ≡ true
    pub has-day : has_day b.setting.time D ≡ true
    pub first : b.setting.time.first ≤ D
    pub inside : day_of b.setting.time D < days b.setting.time

  pub asked : 0 ≡ answer (figures_rules b account D) → Asked
  unfolding figures_rules
  asked e =
      let none = answer-none (figures_rules b account D) refl (sym e) in
      let s : sound b ≡ true = not-false (sound b) (none 0) in
      let h : has_day b.setting.time D ≡ true = not-false (has_day b.setting.time D) (none 2) in
      record {
        is-sound = s;
        has-account = not-false (has_account b.setting account) (none 1);
        has-day = h;
        first = leb-true b.setting.time.first D (and_left (leb b.setting.time.first D) (ltb (day_of b.setting.time D) (days b.setting.time)) h);
        inside = ltb-true (day_of b.setting.time D) (days b.setting.time) (and_right (leb b.setting.time.first D) (ltb (day_of b.setting.time D) (days b.setting.time)) h);
      }

  pub day-asked : Asked → DayAsked b (day_of b.setting.time D)
  day-asked a = record { is-sound = a.is-sound; inside = a.inside }

  -- ---- a total

  module _ (period : ℕ) where
    abbrev rules : List Rule
    rules = total_rules b account D period

    -- a refusal of the day refuses the total
    refused-alike : answer (figures_rules b account D) ≢ 0 → answer (figures_rules b account D) ≡ answer rules
    unfolding answer figures_rules total_rules is_period is_period_at
    refused-alike n =
        on (sound b)
        (λ s. on (has_account b.setting account)
        (λ a. on (leb b.setting.time.first D)
        (λ f. on (ltb (day_of b.setting.time D) (days b.setting.time))
        (λ l. absurd (n (rw (s, a, f, l))))
        (λ l. rw (s, a, f, l)))
        (λ f. rw (s, a, f)))
        (λ a. rw (s, a)))
        (λ s. rw s)

    refused : (n : ℕ) → n ≡ answer rules → n ≢ 0 → record { answer = n; kwh = pos 0 } ≡ totalled b account D period
    unfolding totalled
    refused n e z =
        let zero-kwh : pos 0 ≡ total b account D period = sym (total-refused b account D period (λ q. z (e ∙ q))) in
        λ i. record { answer = e i; kwh = zero-kwh i }

    pub total-day-refused : (n : ℕ) → n ≡ answer (figures_rules b account D) → n ≢ 0 → record { answer = n; kwh = pos 0 } ≡ totalled b account D period
    total-day-refused n e z = refused n (e ∙ refused-alike (λ q. z (e ∙ q))) z

    pub total-no-period : Asked → is_period_at b.setting.time.codes (day_of b.setting.time D) period ≡ false → record { answer = 16; kwh = pos 0 } ≡ totalled b account D period
    unfolding answer total_rules is_period
    total-no-period a e = refused 16 (rw (a.is-sound, a.has-account, le-leb b.setting.time.first D a.first, e)) (λ q. absurd (omega arith))

    pub total-answered : Asked → is_period_at b.setting.time.codes (day_of b.setting.time D) period ≡ true → sum_answered (sum_of b account (day_of b.setting.time D) period) ≡ totalled b account D period
    unfolding answer total_rules total totalled is_period sum_answered
    total-answered a e =
        on (within 99999999999 (sum_of b account (day_of b.setting.time D) period))
        (λ w. rw (a.is-sound, a.has-account, le-leb b.setting.time.first D a.first, e, w))
        (λ w. rw (a.is-sound, a.has-account, le-leb b.setting.time.first D a.first, e, w))

-- ---- a whole day of totals

module _ (b : Meaning.Book contracts) (account D : ℕ) where
  period-at : Asked b account D → (p : ℕ) → p < day_periods b D → is_period_at b.setting.time.codes (day_of b.setting.time D) (suc p) ≡ true
  unfolding is_period_at
  period-at a p h =
      rw (lt-ltb (day_of b.setting.time D) (days b.setting.time) a.inside, le-leb 1 (suc p) (omega arith), le-leb (suc p) (day_periods b D) (omega arith))

  period-of : Asked b account D → (p : ℕ) → p < day_periods b D → is_period b.setting.time D (suc p) ≡ true
  unfolding is_period
  period-of a p h = rw (le-leb b.setting.time.first D a.first, period-at a p h)

  -- every sum of a sound book is a total
  pub sum-is-total : Asked b account D → (p : ℕ) → p < day_periods b D → sum_of b account (day_of b.setting.time D) (suc p) ≡ total b account D (suc p)
  sum-is-total a p h =
      sym (total-is-sum b account D (suc p)
      (total-answer b account D (suc p) ∙ rw (a.is-sound, a.has-account, period-of a p h)))

  module _ (lent : List ℤ) where
    abbrev day_answer : ℕ
    day_answer = answer (day_total_rules b account D (length lent))

    -- what refuses the day's figures refuses its totals
    day-alike : answer (figures_rules b account D) ≢ 0 → answer (figures_rules b account D) ≡ day_answer
    unfolding day_total_rules
    day-alike n = sym (earlier-answers (figures_rules b account D) _ n)

    refused-stays : (n : ℕ) → n ≡ day_answer → n ≢ 0 → (n ≡ day_answer) × (lent ≡ day_totals b account D lent)
    unfolding day_totals
    refused-stays n e z = (e, rw (ne_eqb day_answer 0 (λ q. z (e ∙ q))))

    pub day-totals-refused : (n : ℕ) → n ≡ answer (figures_rules b account D) → n ≢ 0 → (n ≡ day_answer) × (lent ≡ day_totals b account D lent)
    day-totals-refused n e z = refused-stays n (e ∙ day-alike (λ q. z (e ∙ q))) z

    pub day-totals-no-room : Asked b account D → length lent < day_periods b D → (24 ≡ day_answer) × (lent ≡ day_totals b account D lent)
    unfolding answer figures_rules day_total_rules
    day-totals-no-room a h = refused-stays 24 (rw (a.is-sound, a.has-account, a.has-day, lt-ltb (length lent) (day_periods b D) h)) (λ q. absurd (omega arith))

    pub day-totals-stored : Asked b account D → day_periods b D ≤ length lent
        → (0 ≡ day_answer) × (on_front (day_periods b D) (λ (p : ℕ) (old : ℤ). sum_of b account (day_of b.setting.time D) (suc p)) lent ≡ day_totals b account D lent)
    unfolding answer figures_rules day_total_rules day_totals
    day-totals-stored a h = (
      rw (a.is-sound, a.has-account, a.has-day, le-ltb (length lent) (day_periods b D) h),
      rw (a.is-sound, a.has-account, a.has-day, le-ltb (length lent) (day_periods b D) h)
          (front_same (day_periods b D) (λ (p : ℕ) (old : ℤ). sum_of b account (day_of b.setting.time D) (suc p)) (λ (p : ℕ) (old : ℤ). total b account D (suc p)) lent (pos 0) (sum-is-total a)),
    )
