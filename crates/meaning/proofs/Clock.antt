-- Gates, the current day, and where a message reaches: the document's "the later of its first day and the current day" says no more of an
-- open place than the first day does.
use mathlib.Core.Bool.{true, ◌&&◌}
use mathlib.Core.List.{List}
use mathlib.Core.Path.{◌≡◌}
use Prim.Native.Nat.{ℕ, zero, suc, ◌+◌, ◌*◌, ◌≤◌, ◌<◌, max}
use native.Mathlib.Omega.{arith}
use lib.Dec.{leb, ltb, eqb}
use lib.ListN.{length, get_or}
use borrow.Author.Tests.{leb-true, leb-false, ltb-true, lt-ltb, le-leb, lt-leb}
use Rattle.words.specs.Below.{sum_below}
use Rattle.laws.proofs.Cases.{on, and_left, and_right}
use Rattle.laws.proofs.Below.{first-before, sum-next}
use Rattle.meaning.specs.Time.{Time, periods_of_code, periods_at, is_period_at, gates_before, is_open_at, days, day_number, day_of, is_period, current_day}
use Rattle.meaning.specs.Ledgers.{Sort}
use Rattle.meaning.specs.Messages.{Message, from, reaches}

-- a day has at most 50 periods
pub periods-le : (codes : List ℕ) (d : ℕ) → periods_at codes d ≤ 50
unfolding periods_at periods_of_code
periods-le codes d =
    let c = get_or codes d 0 in
    on (eqb c 0) (λ e. rw e (omega arith)) (λ e. rw e
    (on (eqb c 1) (λ q. rw q (omega arith)) (λ q. rw q
    (on (eqb c 2) (λ w. rw w (omega arith)) (λ w. rw w (omega arith))))))

-- and d days at most 50 each
pub gates-le : (codes : List ℕ) (d : ℕ) → gates_before codes d ≤ 50 * d
unfolding gates_before sum_below
gates-le codes zero = omega arith
gates-le codes (suc d) = omega (arith, gates-le codes d, periods-le codes d)

-- what a period of a day is
pub record IsPeriod (codes : List ℕ) (d period : ℕ) : Type 0 where
  pub day : d < length codes
  pub low : 1 ≤ period
  pub high : period ≤ periods_at codes d
  pub most : period ≤ 50

pub is-period : (codes : List ℕ) (d period : ℕ) → is_period_at codes d period ≡ true → IsPeriod codes d period
unfolding is_period_at
is-period codes d period e =
    let hd = ltb-true d (length codes) (and_left (ltb d (length codes)) (leb 1 period && leb period (periods_at codes d)) e) in
    let hp = and_right (ltb d (length codes)) (leb 1 period && leb period (periods_at codes d)) e in
    let lo = leb-true 1 period (and_left (leb 1 period) (leb period (periods_at codes d)) hp) in
    let hi = leb-true period (periods_at codes d) (and_right (leb 1 period) (leb period (periods_at codes d)) hp) in
    record { day = hd; low = lo; high = hi; most = omega (arith, periods-le codes d) }

-- the same of a day by its number
pub is-period-on : (t : Time) (D period : ℕ) → is_period t D period ≡ true → (t.first ≤ D) × IsPeriod t.codes (day_of t D) period
unfolding is_period
is-period-on t D period e = (
  leb-true t.first D (and_left (leb t.first D) (is_period_at t.codes (day_of t D) period) e),
  is-period t.codes (day_of t D) period (and_right (leb t.first D) (is_period_at t.codes (day_of t D) period) e),
)

-- an open place is on the current day or later
pub current-le : (t : Time) (d period : ℕ) → d < days t → period ≤ periods_at t.codes d → is_open_at t.codes t.closed d period ≡ true
    → current_day t ≤ day_number t d
unfolding current_day is_open_at gates_before
current-le t d period hd hp e =
    let lt = ltb-true t.closed (sum_below d (periods_at t.codes) + period) e in
    omega (
      arith,
      first-before (days t) (λ (k : ℕ). ltb t.closed (sum_below (suc k) (periods_at t.codes))) d hd
          (lt-ltb t.closed (sum_below (suc d) (periods_at t.codes)) (omega (arith, sum-next d (periods_at t.codes)))),
    )

-- so the current day says nothing more of an open place
pub reaches-is : {K : Sort} (t : Time) (m : Message K) (d period : ℕ) → is_period_at t.codes d period ≡ true
    → reaches t m d period ≡ is_open_at t.codes t.closed d period && leb (from m) (day_number t d)
unfolding reaches
reaches-is t m d period p =
    let w = is-period t.codes d period p in
    rw p
    (on (is_open_at t.codes t.closed d period)
    (λ o.
    let c = current-le t d period w.day w.high o in
    rw o
    (on (leb (from m) (day_number t d))
    (λ e. rw (e, le-leb (max (from m) (current_day t)) (day_number t d) (omega (arith, leb-true))))
    (λ e. rw (e, lt-leb (max (from m) (current_day t)) (day_number t d) (omega (arith, leb-false))))))
    (λ o. rw o))

-- a place that is reached is an open period of its day
pub reaches-period : {K : Sort} (t : Time) (m : Message K) (d period : ℕ) → reaches t m d period ≡ true → is_period_at t.codes d period ≡ true
unfolding reaches
reaches-period t m d period e =
    and_left (is_period_at t.codes d period) (is_open_at t.codes t.closed d period)
    (and_left (is_period_at t.codes d period && is_open_at t.codes t.closed d period) (leb (max (from m) (current_day t)) (day_number t d)) e)
