-- Numbers that are out of every sound book: accounts, periods and sides from 255 on, days from 65,535 on, identifiers of authorisation 64 on.
use mathlib.Core.Bool.{true, false}
use mathlib.Core.Path.{◌≡◌}
use Prim.Native.Nat.{ℕ, suc, ◌*◌, ◌≤◌}
use native.Mathlib.Omega.{arith}
use lib.Dec.{leb}
use lib.ListN.{length}
use borrow.Author.Tests.{ltb-true, le-ltb, le-leb, lt-leb}
use Rattle.words.specs.Tests.{◌≤?◌, between}
use Rattle.words.specs.Lists.{find}
use Rattle.laws.proofs.Cases.{is_false, and-false}
use Rattle.laws.proofs.Lists.{find_at}
use Rattle.meaning.specs.Time.{Time, days, day_of, has_day, is_period, is_period_at, next_day}
use Rattle.meaning.specs.Ledgers.{Sort, originator_of, is_held}
use Rattle.meaning.specs.Settings.{has_account}
use Rattle.meaning.specs.Books.{Book}
use Rattle.meaning.specs.Soundness.{sound}
use Rattle.meaning.proofs.Clock.{is-period-on}
use Rattle.meaning.proofs.Held.{is-held}
use Rattle.meaning.proofs.Sound.{parts}
use Rattle.meaning.proofs.Standing.{sound-opens}

-- "settlement days of 46, 48 or 50 periods"; "the two sides"
pub no-period : (t : Time) (D period : ℕ) → 255 ≤ period → is_period t D period ≡ false
no-period t D period l = is_false (is_period t D period) (λ e. omega (arith, (is-period-on t D period e).1.most))

pub no-side : (side : ℕ) → 255 ≤ side → between 1 2 side ≡ false
no-side side l = rw (lt-leb side 2 (omega arith)) (and-false (leb 1 side))

module _ {K : Sort} (b : Book K) (s : sound b ≡ true) where
  -- "2 to 64 energy accounts"
  pub no-account : (account : ℕ) → 255 ≤ account → has_account b.setting account ≡ false
  no-account account l = le-ltb account b.setting.accounts (omega (arith, (sound-opens b (parts b s)).few-accounts))

  -- "Day numbers are 0 to 65,534"
  pub past-last-day : (D : ℕ) → 65535 ≤ D → (next_day b.setting.time ≤? D) ≡ true
  past-last-day D l = le-leb (next_day b.setting.time) D (omega (arith, (sound-opens b (parts b s)).last-day))

  pub no-day : (D : ℕ) → 65535 ≤ D → has_day b.setting.time D ≡ false
  no-day D l =
      rw (le-ltb (day_of b.setting.time D) (days b.setting.time) (omega (arith, (sound-opens b (parts b s)).last-day)))
      (and-false (leb b.setting.time.first D))

  pub no-period-of-day : (D period : ℕ) → 65535 ≤ D → is_period b.setting.time D period ≡ false
  unfolding is_period is_period_at
  no-period-of-day D period l =
      rw (le-ltb (day_of b.setting.time D) (days b.setting.time) (omega (arith, (sound-opens b (parts b s)).last-day)))
      (and-false (leb b.setting.time.first D))

  -- "1 to 64 authorisations", from 0 on
  pub none-held : (i : ℕ) → 64 * 65536 ≤ i → is_held b.ledger.held i ≡ false
  unfolding originator_of
  none-held i l =
      let held = b.ledger.held in
      is_false (is_held held i)
      (λ e.
      let there = is-held held i e in
      let known = ((parts b s).slots (find (suc i) held) i there (find_at (suc i) held there)).originator in
      omega (arith, ltb-true (originator_of i) (length b.setting.rows) known, (sound-opens b (parts b s)).few-rows))
