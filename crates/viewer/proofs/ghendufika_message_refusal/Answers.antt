-- The promise of the function that it calls.
use mathlib.Core.Path.{◌∙◌}
use Rattle.viewer.proofs.PackedPromises.{MessageRefusal}
use Rattle.viewer.proofs.ghendufika_message_refusal.Goals as goal

pub returns : goal.returns
returns c = let kept : MessageRefusal c.args.bytes.now _ = c.answer_of.ensures ∙ c.reading_refusal.ensures in kept
