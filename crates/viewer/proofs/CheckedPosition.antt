-- A book opened from a checked setup (02, A2) is one position like any other: the tables, the totals and the bars follow from the history.
use mathlib.Core.Bool.{true}
use mathlib.Core.List.{List}
use mathlib.Core.Path.{◌≡◌}
use Prim.Native.Nat.{ℕ}
use lib.IntN.{ℤ}
use lib.ListN.{length}
use Rattle.meaning.specs.Time.{is_period, periods_on}
use Rattle.meaning.specs.Ledgers.{contracts, Side}
use Rattle.meaning.specs.Books.{opened_book}
use Rattle.meaning.specs.Calls.{Call}
use Rattle.meaning.specs.History.{standing, decides, events_of}
use Rattle.meaning.specs.PackedSetups.{setup_in}
use Rattle.setups.specs.Structs.{setup_of}
use Rattle.setups.specs.declared.Setup.{Setup}
use Rattle.book.specs.declared.Opened.{Opened}
use Rattle.book.specs.declared.OpenedPacked.{OpenedPacked}
use Rattle.calls.proofs.Bridge.{State, whole, Made, tables-follow-history}
use Rattle.calls.proofs.PackedBridge.{packed-tables-follow-history}
use Rattle.checked_setups.proofs.Begins.{OpensChecked, OpensPackedChecked, checked-is-open, checked-is-packed}
use Rattle.viewer.proofs.PositionFromHistory.{FollowsHistory, position-follows-history, packed-position-follows-history}

-- by `open_checked`
module _ (setup : Setup) (held : List ℕ) (side1 side2 : List ℤ) (r : Opened) (h : List ℕ) (l1 l2 : List ℤ)
    (opening : OpensChecked setup held side1 side2 r h l1 l2) (accepted : r.answer ≡ 0)
    (t : State) (calls : List (Call contracts)) (made : Made (record { book = r.book; held = h; side1 = l1; side2 = l2 }) calls t) where
  pub checked-tables-follow-history : (i : ℕ) (σ : Side) (D period : ℕ) → is_period (whole t).setting.time D period ≡ true
      → standing (whole t) i σ D period
      ≡ decides (events_of (opened_book contracts (setup_of setup) (length held)) calls) i σ D (periods_on (whole t).setting.time D) period
  checked-tables-follow-history =
      tables-follow-history setup held side1 side2 r h l1 l2 (checked-is-open setup held side1 side2 r h l1 l2 opening accepted) accepted t calls made

  pub checked-position-follows-history : FollowsHistory t (setup_of setup) (length held) calls
  checked-position-follows-history =
      position-follows-history setup held side1 side2 r h l1 l2 (checked-is-open setup held side1 side2 r h l1 l2 opening accepted) accepted t calls made

-- by `open_packed_checked`
module _ (bytes held : List ℕ) (side1 side2 : List ℤ) (r : OpenedPacked) (h : List ℕ) (l1 l2 : List ℤ)
    (opening : OpensPackedChecked bytes held side1 side2 r h l1 l2) (accepted : r.answer ≡ 0)
    (t : State) (calls : List (Call contracts)) (made : Made (record { book = r.book; held = h; side1 = l1; side2 = l2 }) calls t) where
  pub packed-checked-tables-follow-history : (i : ℕ) (σ : Side) (D period : ℕ) → is_period (whole t).setting.time D period ≡ true
      → standing (whole t) i σ D period
      ≡ decides (events_of (opened_book contracts (setup_in bytes) (length held)) calls) i σ D (periods_on (whole t).setting.time D) period
  packed-checked-tables-follow-history =
      packed-tables-follow-history bytes held side1 side2 r h l1 l2 (checked-is-packed bytes held side1 side2 r h l1 l2 opening accepted) accepted t calls made

  pub packed-checked-position-follows-history : FollowsHistory t (setup_in bytes) (length held) calls
  packed-checked-position-follows-history =
      packed-position-follows-history bytes held side1 side2 r h l1 l2 (checked-is-packed bytes held side1 side2 r h l1 l2 opening accepted) accepted t calls made
