-- Unreadable bytes, or a message that is read, which the book accepts or refuses.
use mathlib.Core.Path.{sym, ◌∙◌}
use Rattle.std.specs.Prelude.{Ok, Err}
use Rattle.meaning.proofs.PackedCalls.{read-takes}
use Rattle.book.proofs.OpeningLaws.{number-refuses}
use Rattle.calls.specs.Answers.{done_seen}
use Rattle.calls.proofs.PackedLaws.{read_answer, read_length, read-meant, unread-steps, read-steps}
use Rattle.calls.proofs.packed.step.Goals as goal

pub returns-in-Err : goal.returns-in-Err
returns-in-Err c =
    let a = c.args in
    let number = read_answer a.bytes.now c.in-Err.ensures in
    let u = unread-steps a.b a.held.now a.side1.now a.side2.now a.bytes.now (λ z. number-refuses c.in-Err.refusal (number ∙ z)) in
    rw (c.into.ensures, number) (u.0, u.1, u.2, u.3, tt)

pub returns-in-Ok-do_message : goal.returns-in-Ok-do_message
returns-in-Ok-do_message c =
    let a = c.args in
    let e = sym (read_answer a.bytes.now c.in-Ok.ensures) in
    let does = rw (read-meant a.bytes.now c.in-Ok.ensures e) at c.in-Ok-do_message.ensures in
    let s = read-steps a.b a.held.now a.side1.now a.side2.now a.bytes.now e (done_seen a.b (Ok c.in-Ok-do_message.done)) _ _ _ does in
    let some = (read-takes a.bytes.now e).0 in
    rw (read_length a.bytes.now c.in-Ok.ensures) (s.0, s.1, s.2, s.3, some)

pub returns-in-Err-do_message : goal.returns-in-Err-do_message
returns-in-Err-do_message c =
    let a = c.args in
    let e = sym (read_answer a.bytes.now c.in-Ok.ensures) in
    let does = rw (read-meant a.bytes.now c.in-Ok.ensures e) at c.in-Err-do_message.ensures in
    let s = read-steps a.b a.held.now a.side1.now a.side2.now a.bytes.now e (done_seen a.b (Err c.in-Err-do_message.fault)) _ _ _ does in
    let some = (read-takes a.bytes.now e).0 in
    rw (read_length a.bytes.now c.in-Ok.ensures) (s.0, s.1, s.2, s.3, some)
