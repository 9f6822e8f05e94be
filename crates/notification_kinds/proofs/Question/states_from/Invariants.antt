-- Nothing found yet: nothing on a day before d, nor in a period of d before p.
use mathlib.Core.Bool.{false}
use mathlib.Core.List.{[]}
use mathlib.Core.Path.{◌≡◌}
use Prim.Native.Nat.{ℕ, suc}
use Rattle.words.specs.Below.{some_below}
use Rattle.meaning.specs.Notifications.{states_at}
use Rattle.messages.specs.Structs.{notification_of}
use Rattle.book.specs.Structs.{book_of}
use Rattle.notification_kinds.specs.Kinds.{from_first}
use Rattle.notification_kinds.proofs.Question.states_from.Given as goal

abbrev pub invariant-loop-p : goal.invariant-loop-p
invariant-loop-p l =
    some_below l.p (λ (q : ℕ). states_at (book_of l.self.view.book [] l.self.view.side1.now l.self.view.side2.now) (notification_of l.self.notification) l.s l.d (suc q)) ≡ false

abbrev pub invariant-loop-d : goal.invariant-loop-d
invariant-loop-d l = some_below l.d (from_first (book_of l.self.view.book [] l.self.view.side1.now l.self.view.side2.now) (notification_of l.self.notification) l.s) ≡ false
