-- The promise of the function that it calls.
use mathlib.Core.Path.{◌∙◌}
use Rattle.viewer.proofs.PackedPromises.{ReadsMessage}
use Rattle.viewer.proofs.packing.ghendufika_read_message.Goals as goal

pub returns : goal.returns
returns c = let kept : ReadsMessage c.args.bytes.now _ = c.into.ensures ∙ c.read_message.ensures in kept
