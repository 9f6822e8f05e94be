-- The promise of the function that it calls.
use mathlib.Core.Path.{◌∙◌}
use mir.Syntax.{w64}
use Rattle.laws.proofs.Machine.{back}
use Rattle.viewer.proofs.PackedPromises.{MessageField}
use Rattle.viewer.proofs.ghendufika_message_field.Goals as goal

pub returns : goal.returns
returns c =
    let a = c.args in
    let r = c.field_in in
    let kept : MessageField a.bytes.now a.field _ = back w64 r.result r.type_inv ∙ r.ensures in
    kept
