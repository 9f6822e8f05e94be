-- Reading gives the setup, opening the book and the tables. What was read always opens.
use mathlib.Core.Path.{ap, ◌∙◌}
use Rattle.std.proofs.lemmas.Result.{err_from_is_err_and}
use Rattle.book.specs.Answers.{opened}
use Rattle.book.specs.declared.Opened.{Opened}
use Rattle.book.proofs.OpeningLaws.{number-refuses}
use Rattle.book.proofs.PackedOpening.{opened-from, read-always-opens, refused_by_reading}
use Rattle.book.proofs.opening.open_packed.Goals as goal

pub returns-in_err-read : goal.returns-in_err-read
returns-in_err-read c =
    let a = c.args in
    let p = err_from_is_err_and c.from_residual.result c.from_residual.ensures.1 in
    rw (p.1, p.2) (refused_by_reading a.bytes.now a.held.now a.side1.now a.side2.now _ (number-refuses c.in_err-read.field-0.0) c.in_err-read.ensures)

pub returns-in_err-book : goal.returns-in_err-book
unfolding opened
returns-in_err-book c =
    let a = c.args in
    let opens = read-always-opens a.bytes.now a.held.now a.side1.now a.side2.now c.in_ok-read.read.length c.in_ok-read.read.value c.in_ok-read.ensures in
    absurd (number-refuses c.in_err-book.field-0.0 (ap (λ (o : Opened). o.answer) c.in_err-book.ensures.0 ∙ opens))

pub returns : goal.returns
returns c =
    let a = c.args in
    opened-from a.bytes.now a.held.now a.side1.now a.side2.now
    (record { answer = 0; length = c.in_ok-read.read.length; setup = c.in_ok-read.read.value })
    (record { answer = 0; book = c.in_ok-book.book }) _ _ _
    c.in_ok-read.ensures c.in_ok-book.ensures
