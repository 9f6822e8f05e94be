-- Document 02, A1: what a 48-period notification places on the periods of a day. The definition asks a day's period for the notification's; the request
-- tells it the other way round, and so it is written here once more: each period of a day has exactly one source.
use mathlib.Core.Bool.{Bool, true, false, not, true≢false}
use mathlib.Core.List.{List, [], ◌∷◌}
use mathlib.Core.Logic.{◌⊎◌, inl, inr, ⊎_elim, ◌≢◌}
use mathlib.Core.Path.{◌≡◌, refl, sym, ◌∙◌}
use Prim.Native.Nat.{ℕ, ◌+◌, ◌-◌, ◌≤◌}
use native.Mathlib.Omega.{arith}
use lib.Dec.{leb, eqb}
use borrow.Author.Tests.{leb-true, leb-false, lt-leb, le-ltb, eq-eqb, ne_eqb}
use Rattle.std.specs.Prelude.{if◌then◌else◌}
use Rattle.words.specs.Tests.{◌≤?◌, ◌=?◌}
use Rattle.words.specs.Lists.{every}
use Rattle.laws.proofs.Cases.{on}
use Rattle.meaning.specs.Time.{periods_of_code}
use Rattle.meaning.specs.Ledgers.{Sort}
use Rattle.meaning.specs.Messages.{Entry, Notification, notification, source_of, volume, volume_on}
use Rattle.meaning.specs.Calls.{message}
use Rattle.meaning.specs.History.{gives}

-- "A 48-period notification over a 46-period day must drop its periods 3 and 4, and its 5 to 48 become 3 to 46": which of its periods become which of
-- the day
abbrev pub InSpring : ℕ → ℕ → Type 0
InSpring source period = ((1 ≤ source) × (source ≤ 2) × (period ≡ source)) ⊎ ((5 ≤ source) × (source ≤ 48) × (period + 2 ≡ source))

-- "Over a 50-period day 1 to 4 stay, 3 and 4 are given again as 5 and 6, and 5 to 48 become 7 to 50"
abbrev pub InAutumn : ℕ → ℕ → Type 0
InAutumn source period =
    ((1 ≤ source) × (source ≤ 4) × (period ≡ source))
    ⊎ (((3 ≤ source) × (source ≤ 4) × (period ≡ source + 2)) ⊎ ((5 ≤ source) × (source ≤ 48) × (period ≡ source + 2)))

pub record OneSource (Becomes : ℕ → Type 0) (source : ℕ) : Type 0 where
  pub becomes : Becomes source
  pub no_other : (other : ℕ) → Becomes other → other ≡ source

pub one-in-spring : (period : ℕ) → 1 ≤ period → period ≤ 46 → OneSource (λ source. InSpring source period) (source_of false 46 period)
unfolding source_of
one-in-spring period low high =
    on (leb period 2)
    (λ e.
    let early = leb-true period 2 e in
    rw e (record { becomes = inl (low, early, refl); no_other = λ other b. ⊎_elim (λ s. omega arith) (λ s. omega arith) b }))
    (λ e.
    let late = leb-false period 2 e in
    rw e (record { becomes = inr (omega arith, omega arith, refl); no_other = λ other b. ⊎_elim (λ s. omega arith) (λ s. omega arith) b }))

pub one-in-autumn : (period : ℕ) → 1 ≤ period → period ≤ 50 → OneSource (λ source. InAutumn source period) (source_of false 50 period)
unfolding source_of
one-in-autumn period low high =
    on (leb period 4)
    (λ e.
    let early = leb-true period 4 e in
    rw e (record { becomes = inl (low, early, refl); no_other = λ other b. ⊎_elim (λ s. omega arith) (λ s. ⊎_elim (λ z. omega arith) (λ z. omega arith) s) b }))
    (λ e.
    let late = leb-false period 4 e in
    rw e
    (record {
      becomes =
          on (leb period 6)
          (λ q. let again = leb-true period 6 q in inr (inl (omega arith, omega arith, omega arith)))
          (λ q. let after = leb-false period 6 q in inr (inr (omega arith, omega arith, omega arith)));
      no_other = λ other b. ⊎_elim (λ s. omega arith) (λ s. ⊎_elim (λ z. omega arith) (λ z. omega arith) s) b;
    }))

-- and each of the notification's 48 periods is placed, but 3 and 4 on a short day; on a long day these two are placed twice
pub spring-drops : (period : ℕ) → 1 ≤ period → period ≤ 46 → (source_of false 46 period ≢ 3) × (source_of false 46 period ≢ 4)
spring-drops period low high =
    ⊎_elim (λ s. (λ e. omega arith, λ e. omega arith)) (λ s. (λ e. omega arith, λ e. omega arith)) (one-in-spring period low high).becomes

pub spring-places : (source : ℕ) → 1 ≤ source → source ≢ 3 → source ≢ 4 → source_of false 46 (if source ≤? 2 then source else source - 2) ≡ source
unfolding source_of
spring-places source low no3 no4 =
    on (leb source 2)
    (λ e. rw (e, e))
    (λ e.
    let late : 5 ≤ source = omega (arith, leb-false source 2 e, no3, no4) in
    rw (e, lt-leb (source - 2) 2 (omega arith)) (omega arith))

pub autumn-places : (source : ℕ) → source_of false 50 (if source ≤? 4 then source else source + 2) ≡ source
unfolding source_of
autumn-places source =
    on (leb source 4)
    (λ e. rw (e, e))
    (λ e. rw (e, lt-leb (source + 2) 4 (omega (arith, leb-false source 4 e))) (omega arith))

pub autumn-again : (source_of false 50 5 ≡ 3) × (source_of false 50 6 ≡ 4)
unfolding source_of
autumn-again = (refl, refl)

-- on a day of 48, and for a single-day notification, nothing moves
pub plain-stays : (single : Bool) (period : ℕ) → source_of single 48 period ≡ period
unfolding source_of
plain-stays true period = refl
plain-stays false period = refl

pub single-stays : (periods period : ℕ) → source_of true periods period ≡ period
unfolding source_of
single-stays periods period = refl

module _ {K : Sort} (entries : List (Entry K)) where
  pub plain-volume : (single : Bool) (period : ℕ) → volume_on single entries 48 period ≡ volume entries period
  unfolding volume_on
  plain-volume single period = rw (plain-stays single period)

  pub single-volume : (periods period : ℕ) → volume_on true entries periods period ≡ volume entries period
  unfolding volume_on
  single-volume periods period = rw (single-stays periods period)

  -- a notification gives on a changed day what it gives on a plain one, at the source
  pub as-on-a-plain-day : (single : Bool) (periods period : ℕ) → volume_on single entries periods period ≡ volume_on single entries 48 (source_of single periods period)
  unfolding volume_on
  as-on-a-plain-day single periods period = rw (plain-stays single (source_of single periods period))

-- no entry names the period
abbrev pub omits : {K : Sort} → List (Entry K) → ℕ → Bool
omits entries period = every (λ e. not (period =? e.period)) entries

omitted-volume : {K : Sort} (entries : List (Entry K)) (period : ℕ) → omits entries period ≡ true → volume entries period ≡ K.omitted
unfolding volume every
omitted-volume [] period h = refl
omitted-volume (e ∷ es) period h =
    on (eqb period e.period)
    (λ q. absurd (true≢false (sym h ∙ rw q)))
    (λ q. rw q (omitted-volume es period (rw q at h)))

-- "a period of the day is omitted when the notification omits the period placed on it"
pub omitted-placed : {K : Sort} (single : Bool) (entries : List (Entry K)) (periods period : ℕ) → omits entries (source_of single periods period) ≡ true
    → volume_on single entries periods period ≡ K.omitted
unfolding volume_on
omitted-placed single entries periods period h = omitted-volume entries (source_of single periods period) h

-- demand 3: "its volume" means the volume so placed, and for a single day its own
module _ {K : Sort} (n : Notification K) (D periods period : ℕ) (lasts : D ≤ n.last) where
  pub gives-placed : n.first ≢ n.last → gives D periods period (message (notification n)) ≡ volume n.entries (source_of false periods period)
  unfolding gives volume_on
  gives-placed several = rw (le-ltb n.last D lasts, ne_eqb n.first n.last several)

  pub gives-own : n.first ≡ n.last → gives D periods period (message (notification n)) ≡ volume n.entries period
  unfolding gives
  gives-own alone = rw (le-ltb n.last D lasts, eq-eqb n.first n.last alone) (single-volume n.entries periods period)

-- the local hour is kept: after the change a period is as far from its day's end as its source is from 48
pub spring-hour : (period : ℕ) → 3 ≤ period → period ≤ 46 → 46 - period ≡ 48 - source_of false 46 period
unfolding source_of
spring-hour period low high =
    on (leb period 2)
    (λ e. absurd (omega (arith, leb-true period 2 e)))
    (λ e. rw e (omega arith))

pub autumn-hour : (period : ℕ) → 5 ≤ period → period ≤ 50 → 50 - period ≡ 48 - source_of false 50 period
unfolding source_of
autumn-hour period low high =
    on (leb period 4)
    (λ e. absurd (omega (arith, leb-true period 4 e)))
    (λ e. rw e (omega arith))

-- the source of a day's period is one of a 48-period notification's, whatever the day's length
pub source-within : (code period : ℕ) → 1 ≤ period → period ≤ periods_of_code code
    → (1 ≤ source_of false (periods_of_code code) period) × (source_of false (periods_of_code code) period ≤ 48)
unfolding periods_of_code
source-within code period low high =
    on (eqb code 0)
    (λ e. rw e (⊎_elim (λ s. (s.0, omega arith)) (λ s. (omega arith, s.1)) (one-in-spring period low (rw e at high)).becomes))
    (λ e. on (eqb code 1)
    (λ q. rw (e, q, plain-stays false period) (low, rw (e, q) at high))
    (λ q. on (eqb code 2)
    (λ w.
    rw (e, q, w)
    (⊎_elim (λ s. (s.0, omega arith)) (λ s. ⊎_elim (λ z. (omega arith, omega arith)) (λ z. (omega arith, z.1)) s) (one-in-autumn period low (rw (e, q, w) at high)).becomes))
    (λ w. absurd (omega (arith, rw (e, q, w) at high)))))
