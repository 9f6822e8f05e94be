-- A refusal leaves every table; otherwise the bytes are opened as they are unchecked.
use mathlib.Core.Path.{refl, sym}
use lib.ListN.{length}
use Rattle.std.proofs.lemmas.Result.{err_from_is_err_and}
use Rattle.book.proofs.OpeningLaws.{number-refuses}
use Rattle.book.proofs.PackedOpening.{packed-by}
use Rattle.checked_setups.proofs.CheckedLaws.{same-reading}
use Rattle.checked_setups.proofs.Refused.{opens-no-bytes}
use Rattle.checked_setups.proofs.reading.open_packed_checked.Goals as goal

pub returns-in_err-checked_reading_refusal : goal.returns-in_err-checked_reading_refusal
returns-in_err-checked_reading_refusal c =
    let a = c.args in
    let refusal = c.in_err-checked_reading_refusal.field-0.0 in
    let p = err_from_is_err_and c.from_residual.result c.from_residual.ensures.1 in
    rw (p.1, p.2) (opens-no-bytes a.bytes.now a.held.now a.side1.now a.side2.now c.in_err-checked_reading_refusal.ensures (number-refuses refusal) refl)

pub returns : goal.returns
returns c =
    let a = c.args in
    packed-by a.held.now a.side1.now a.side2.now
    (same-reading a.bytes.now (length a.held.now) (length a.side1.now) (length a.side2.now) (sym c.in_ok-checked_reading_refusal.ensures))
    c.open_packed.ensures
