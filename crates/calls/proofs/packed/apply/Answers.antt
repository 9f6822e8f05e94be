-- No sound book, unreadable bytes and what the book refuses, each before the next is asked; and the message that is done.
use mathlib.Core.Path.{refl, sym, ◌∙◌}
use Rattle.std.specs.Prelude.{Ok, Err}
use Rattle.std.proofs.lemmas.Result.{err_from_is_err_and}
use Rattle.book.proofs.OpeningLaws.{number-refuses}
use Rattle.calls.specs.Answers.{done_seen}
use Rattle.calls.proofs.PackedLaws.{read_answer, read_length, read-meant, unsound-applies, unread-applies, refused-applies, done-applies}
use Rattle.calls.proofs.packed.apply.Goals as goal

pub returns-then-not-known : goal.returns-then-not-known
returns-then-not-known c =
    let a = c.args in
    rw c.into.ensures
    (unsound-applies a.b a.held.now a.side1.now a.side2.now a.bytes.now (sym c.is_sound-known.ensures ∙ c.if-not-known.true))

pub returns-in_err-read : goal.returns-in_err-read
returns-in_err-read c =
    let a = c.args in
    let number = read_answer a.bytes.now c.in_err-read.ensures in
    let p = err_from_is_err_and c.from_residual.result c.from_residual.ensures.1 in
    rw (p.1, p.2, number)
    (unread-applies a.b a.held.now a.side1.now a.side2.now a.bytes.now (sym c.is_sound-known.ensures ∙ c.if-not-known.false) (λ z. number-refuses c.in_err-read.field-0.0 (number ∙ z)))

pub returns-in_err-done : goal.returns-in_err-done
returns-in_err-done c =
    let a = c.args in
    let fault = c.in_err-done.field-0.0 in
    let e = sym (read_answer a.bytes.now c.in_ok-read.ensures) in
    let p = err_from_is_err_and c.from_residual-in_err-done.result c.from_residual-in_err-done.ensures.1 in
    let does = rw (read-meant a.bytes.now c.in_ok-read.ensures e) at c.in_err-done.ensures in
    rw (p.1, p.2)
    (refused-applies a.b a.held.now a.side1.now a.side2.now a.bytes.now (sym c.is_sound-known.ensures ∙ c.if-not-known.false) e (done_seen a.b (Err fault)) _ _ _ does (number-refuses fault.refusal))

pub returns : goal.returns
returns c =
    let a = c.args in
    let e = sym (read_answer a.bytes.now c.in_ok-read.ensures) in
    let does = rw (read-meant a.bytes.now c.in_ok-read.ensures e) at c.in_ok-done.ensures in
    rw (read_length a.bytes.now c.in_ok-read.ensures)
    (done-applies a.b a.held.now a.side1.now a.side2.now a.bytes.now (sym c.is_sound-known.ensures ∙ c.if-not-known.false) e (done_seen a.b (Ok c.in_ok-done.done)) _ _ _ does refl)
