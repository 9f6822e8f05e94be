-- The promise of the function that it calls.
use mathlib.Core.Path.{◌∙◌}
use Rattle.viewer.proofs.PackedPromises.{WritesSetup}
use Rattle.viewer.proofs.packing.ghendufika_write_setup.Goals as goal

pub returns : goal.returns
returns c =
    let a = c.args in
    let kept : WritesSetup a.s a.out.now _ _ = (c.into.ensures ∙ c.write_setup.ensures.0, c.write_setup.ensures.1) in
    kept
