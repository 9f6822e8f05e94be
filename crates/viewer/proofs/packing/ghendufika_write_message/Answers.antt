-- The promise of the function that it calls.
use mathlib.Core.Path.{◌∙◌}
use Rattle.viewer.proofs.PackedPromises.{WritesMessage}
use Rattle.viewer.proofs.packing.ghendufika_write_message.Goals as goal

pub returns : goal.returns
returns c =
    let a = c.args in
    let kept : WritesMessage a.m a.out.now _ _ = (c.into.ensures ∙ c.write_message.ensures.0, c.write_message.ensures.1) in
    kept
