-- The slot of an identifier from the searches for it and for an unheld one.
use mathlib.Core.List.{List}
use mathlib.Core.Path.{◌≡◌}
use Prim.Native.Nat.{ℕ, suc, ◌≤◌, ◌<◌}
use lib.ListN.{length}
use borrow.Author.Tests.{lt-ltb, le-ltb}
use Rattle.words.specs.Lists.{find}
use Rattle.meaning.specs.Ledgers.{is_held, slot_for}

pub slot-own : (held : List ℕ) (i : ℕ) → find (suc i) held < length held → find (suc i) held ≡ slot_for held i
unfolding slot_for is_held
slot-own held i h = rw (lt-ltb (find (suc i) held) (length held) h)

pub slot-new : (held : List ℕ) (i : ℕ) → length held ≤ find (suc i) held → find 0 held ≡ slot_for held i
unfolding slot_for is_held
slot-new held i h = rw (le-ltb (find (suc i) held) (length held) h)
