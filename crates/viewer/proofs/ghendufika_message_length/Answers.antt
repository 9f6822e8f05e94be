-- The promise of the function that it calls.
use Rattle.viewer.proofs.PackedPromises.{MessageLength}
use Rattle.viewer.proofs.ghendufika_message_length.Goals as goal

pub returns : goal.returns
returns c = let kept : MessageLength c.args.bytes.now _ = c.message_length.ensures in kept
