-- One arm for each kind, by that kind's own promise, refused or accepted.
use Prim.Native.Nat.{◌≤◌}
use native.Mathlib.Omega.{arith}
use Rattle.std.specs.Prelude.{Ok, Err}
use Rattle.std.proofs.lemmas.Result.{err_from_is_err_and}
use Rattle.calls.specs.Answers.{gated_seen, notified_seen}
use Rattle.calls.proofs.MessageLaws.{kind-gate, kind-notification, kind-nullification, kind-other, does-gate, does-notification, does-nullification, does-nothing}
use Rattle.calls.proofs.sound_book.do_message.Goals as goal

pub returns-in_err-book-in-0 : goal.returns-in_err-book-in-0
returns-in_err-book-in-0 c =
    let a = c.args in
    let p = err_from_is_err_and c.from_residual.result c.from_residual.ensures.1 in
    rw (p.1, p.2, kind-gate a.m c.in-0.is)
    (does-gate a.b a.held.now a.side1.now a.side2.now c.requires (gated_seen a.b (Err c.in_err-book-in-0.field-0.0)) c.in_err-book-in-0.ensures)

pub returns-in_ok-book-in-0 : goal.returns-in_ok-book-in-0
returns-in_ok-book-in-0 c =
    let a = c.args in
    rw (c.untold.ensures, kind-gate a.m c.in-0.is)
    (does-gate a.b a.held.now a.side1.now a.side2.now c.requires (gated_seen a.b (Ok c.in_ok-book-in-0.book)) c.in_ok-book-in-0.ensures)

pub returns-in_err-accepted-in-1 : goal.returns-in_err-accepted-in-1
returns-in_err-accepted-in-1 c =
    let a = c.args in
    let p = err_from_is_err_and c.from_residual-in_err-accepted-in-1.result c.from_residual-in_err-accepted-in-1.ensures.1 in
    rw (p.1, p.2, kind-notification a.m c.in-1.is)
    (does-notification a.b a.held.now a.side1.now a.side2.now a.m (notified_seen (Err c.in_err-accepted-in-1.field-0.0)) _ _ _ c.in_err-accepted-in-1.ensures)

pub returns-in_ok-accepted-in-1 : goal.returns-in_ok-accepted-in-1
returns-in_ok-accepted-in-1 c =
    let a = c.args in
    rw (kind-notification a.m c.in-1.is)
    (does-notification a.b a.held.now a.side1.now a.side2.now a.m (notified_seen (Ok c.in_ok-accepted-in-1.accepted)) _ _ _ c.in_ok-accepted-in-1.ensures)

pub returns-in_err-do_nullification-in-2 : goal.returns-in_err-do_nullification-in-2
returns-in_err-do_nullification-in-2 c =
    let a = c.args in
    let p = err_from_is_err_and c.from_residual-in_err-do_nullification-in-2.result c.from_residual-in_err-do_nullification-in-2.ensures.1 in
    rw (p.1, p.2, kind-nullification a.m c.in-2.is)
    (does-nullification a.b a.held.now a.side1.now a.side2.now a.m _ _ _ c.in_err-do_nullification-in-2.ensures)

pub returns-in_ok-do_nullification-in-2 : goal.returns-in_ok-do_nullification-in-2
returns-in_ok-do_nullification-in-2 c =
    let a = c.args in
    rw (c.untold-in-2.ensures, kind-nullification a.m c.in-2.is)
    (does-nullification a.b a.held.now a.side1.now a.side2.now a.m _ _ _ c.in_ok-do_nullification-in-2.ensures)

pub returns-in_err-kind_refusal-in_default : goal.returns-in_err-kind_refusal-in_default
returns-in_err-kind_refusal-in_default c =
    let a = c.args in
    let p = err_from_is_err_and c.from_residual-in_err-kind_refusal-in_default.result c.from_residual-in_err-kind_refusal-in_default.ensures.1 in
    let above : 3 ≤ a.m.kind = omega arith in
    rw (p.1, p.2, kind-other a.m above)
    (does-nothing a.b a.held.now a.side1.now a.side2.now a.m.kind _ above c.requires c.in_err-kind_refusal-in_default.ensures)
