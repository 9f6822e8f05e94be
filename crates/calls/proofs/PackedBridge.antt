-- THE BRIDGE from a packed setup, which is what the sheet program and the C viewer open: the same three facts for a book opened by `open_packed`.
use mathlib.Core.Bool.{true}
use mathlib.Core.List.{List}
use mathlib.Core.Path.{◌≡◌}
use Prim.Native.Nat.{ℕ}
use lib.IntN.{ℤ}
use lib.ListN.{length}
use Rattle.meaning.specs.Time.{is_period, periods_on}
use Rattle.meaning.specs.Ledgers.{contracts, Side}
use Rattle.meaning.specs.Books.{opened_book}
use Rattle.meaning.specs.Books as Meaning
use Rattle.meaning.specs.Soundness.{sound}
use Rattle.meaning.specs.Calls.{Call}
use Rattle.meaning.specs.History.{standing, decides, after, events_of}
use Rattle.meaning.specs.PackedSetups.{setup_in}
use Rattle.book.specs.declared.OpenedPacked.{OpenedPacked}
use Rattle.book.proofs.PackedOpening.{OpensPacked, packed-accepted, packed-book}
use Rattle.calls.proofs.Bridge.{State, whole, Made, Begins, begun-holds, begun-sound, begun-history}

module _ (bytes held : List ℕ) (side1 side2 : List ℤ) (r : OpenedPacked) (h : List ℕ) (l1 l2 : List ℤ)
    (opening : OpensPacked bytes held side1 side2 r h l1 l2) (accepted : r.answer ≡ 0) where
  abbrev start : State
  start = record { book = r.book; held = h; side1 = l1; side2 = l2 }

  -- what meaning opens from the setup that the bytes hold
  abbrev begun : Meaning.Book contracts
  begun = opened_book contracts (setup_in bytes) (length held)

  pub packed-begins : Begins start (setup_in bytes) (length held) (length side1) (length side2)
  packed-begins =
      record {
        unrefused = packed-accepted bytes held side1 side2 r h l1 l2 opening accepted;
        holds = packed-book bytes held side1 side2 r h l1 l2 opening accepted;
      }

  module _ (t : State) (calls : List (Call contracts)) (made : Made start calls t) where
    pub packed-holds-after : whole t ≡ after begun calls
    packed-holds-after = begun-holds packed-begins t calls made

    pub packed-stays-sound : sound (whole t) ≡ true
    packed-stays-sound = begun-sound packed-begins t calls made

    pub packed-tables-follow-history : (i : ℕ) (σ : Side) (D period : ℕ) → is_period (whole t).setting.time D period ≡ true
        → standing (whole t) i σ D period ≡ decides (events_of begun calls) i σ D (periods_on (whole t).setting.time D) period
    packed-tables-follow-history = begun-history packed-begins t calls made
