-- The machine subtracts first, since the sum of the definition may not fit.
use Rattle.std.proofs.Common.{◌+◌, ◌-◌, arith, ◌∙◌, sym, le-leb}
use borrow.Author.Tests.{lt-leb}
use Rattle.laws.proofs.Cases.{by-lt}
use Rattle.decimals.specs.Texts.{has_room}
use Rattle.decimals.proofs.has_room.Goals as goal

pub returns-then-at-size : goal.returns-then-at-size
unfolding has_room
returns-then-at-size c =
    let a = c.args in
    by-lt a.size (a.at + a.bytes)
    (λ h. lt-leb a.bytes (a.size - a.at) (omega arith) ∙ sym (lt-leb (a.at + a.bytes) a.size h))
    (λ h. le-leb a.bytes (a.size - a.at) (omega arith) ∙ sym (le-leb (a.at + a.bytes) a.size h))

pub returns-else-at-size : goal.returns-else-at-size
unfolding has_room
returns-else-at-size c =
    let a = c.args in
    lt-leb a.at a.size (omega arith) ∙ sym (lt-leb (a.at + a.bytes) a.size (omega arith))
