-- The refusal decides: with one nothing is read, without one the bytes are read as they are unchecked.
use mathlib.Core.Path.{◌≡◌, refl, sym, ap, ◌∙◌}
use Rattle.std.proofs.Common.{Err, rules}
use Rattle.setup_reading.specs.Structs.{setup_read, as_setup_read}
use Rattle.setup_reading.proofs.ReadParts.{refused-by}
use Rattle.book.proofs.OpeningLaws.{number-refuses}
use Rattle.checked_setups.specs.Checked.{read_checked_setup}
use Rattle.checked_setups.proofs.CheckedLaws.{same-reading}
use Rattle.checked_setups.proofs.reading.read_setup_checked.Goals as goal

pub returns-in_err-checked_reading_refusal : goal.returns-in_err-checked_reading_refusal
unfolding read_checked_setup
returns-in_err-checked_reading_refusal c =
    let refusal = c.in_err-checked_reading_refusal.field-0.0 in
    let given : c.from_residual.result ≡ Err refusal = search rules in
    ap as_setup_read given ∙ refused-by c.args.bytes.now c.in_err-checked_reading_refusal.ensures (number-refuses refusal) refl

pub returns : goal.returns
returns c =
    let a = c.args in
    c.read_setup.ensures
    ∙ ap setup_read (same-reading a.bytes.now a.slots a.lent1 a.lent2 (sym c.in_ok-checked_reading_refusal.ensures))
