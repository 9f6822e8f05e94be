-- Nothing found yet: no slot before s overlaps, no day of s before d, no period of d before p.
use mathlib.Core.Bool.{false}
use mathlib.Core.Path.{◌≡◌}
use Prim.Native.Nat.{◌≤◌}
use Rattle.words.specs.Below.{some_below}
use Rattle.meaning.specs.Notifications.{overlaps}
use Rattle.messages.specs.Structs.{notification_of}
use Rattle.book.specs.Structs.{book_seen}
use Rattle.notification_kinds.proofs.KindLaws.{on_period, on_day}
use Rattle.notification_kinds.proofs.Question.is_overlapped.Given as goal

abbrev pub invariant-loop-p : goal.invariant-loop-p
invariant-loop-p l = (l.first ≤ l.p) × (some_below l.p (on_period (book_seen l.self.view) (notification_of l.self.notification) l.s l.d) ≡ false)

abbrev pub invariant-loop-d : goal.invariant-loop-d
invariant-loop-d l = some_below l.d (on_day (book_seen l.self.view) (notification_of l.self.notification) l.s) ≡ false

abbrev pub invariant-loop-s : goal.invariant-loop-s
invariant-loop-s l = some_below l.s (overlaps (book_seen l.self.view) (notification_of l.self.notification)) ≡ false
