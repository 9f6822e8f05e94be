-- The refusal decides: with one nothing is read, without one the struct is the one for the setup that the bytes hold.
use mathlib.Core.Path.{◌≡◌, refl, sym, ap, ◌∙◌}
use Rattle.std.proofs.Common.{Err, rules}
use Rattle.limits.proofs.AnswerNumbers.{never-done}
use Rattle.setup_reading.specs.Structs.{as_setup_read}
use Rattle.setup_reading.proofs.ReadParts.{read_done, read-refused}
use Rattle.setup_reading.proofs.read_setup.Goals as goal

pub returns-in_err-reading_refusal : goal.returns-in_err-reading_refusal
returns-in_err-reading_refusal c =
    let a = c.args in
    let refusal = c.in_err-reading_refusal.field-0.0 in
    let given : c.from_residual.result ≡ Err refusal = search rules in
    ap as_setup_read given ∙ read-refused a.bytes.now a.slots a.lent1 a.lent2 c.in_err-reading_refusal.ensures (never-done refusal) refl

pub returns : goal.returns
returns c =
    let a = c.args in
    read_done a.bytes.now a.slots a.lent1 a.lent2 c.setup_in-setup.result c.setup_in-setup.ensures c.bytes_for.ensures (sym c.in_ok-reading_refusal.ensures)
