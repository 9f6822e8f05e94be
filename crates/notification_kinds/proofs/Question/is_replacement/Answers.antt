-- Its slot, and what that states.
use mathlib.Core.List.{[]}
use mathlib.Core.Path.{sym, ap, ◌∙◌}
use Prim.Native.Nat.{ℕ}
use native.Mathlib.Omega.{arith}
use Rattle.words.specs.Below.{some_below}
use Rattle.messages.specs.Structs.{notification_of}
use Rattle.book.specs.Structs.{book_of}
use Rattle.notification_kinds.specs.Kinds.{from_first}
use Rattle.notification_kinds.proofs.KindLaws.{replaced-not, replaced-held}
use Rattle.notification_kinds.proofs.Question.is_replacement.Goals as goal

pub returns-then-self-slot : goal.returns-then-self-slot
unfolding notification_of
returns-then-self-slot c =
    let q = c.args.self.now in
    let v = q.view in
    sym (replaced-not v.book v.held.now v.side1.now v.side2.now (notification_of q.notification) (omega (arith, c.slot_of-slot.ensures, c.if-self-slot.true)))

pub states_from-requires : goal.states_from-requires
states_from-requires c = c.if-self-slot.false

pub returns : goal.returns
unfolding notification_of
returns c =
    let q = c.args.self.now in
    let v = q.view in
    c.states_from.ensures
    ∙ ap (λ (k : ℕ). some_below v.book.setup.days (from_first (book_of v.book [] v.side1.now v.side2.now) (notification_of q.notification) k)) c.slot_of-slot.ensures
    ∙ sym (replaced-held v.book v.held.now v.side1.now v.side2.now (notification_of q.notification) (omega (arith, c.slot_of-slot.ensures, c.if-self-slot.false)))
