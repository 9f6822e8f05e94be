-- What is kept of what is at hand lies within the buffer.
use Rattle.std.proofs.Common.{arith}
use Rattle.sheet_parts.proofs.KeptLaws.{kept-fits}
use Rattle.sheet.proofs.take_turn.Goals as goal

pub returns : goal.returns
returns c = omega (arith, c.keep.ensures.1, c.keep.auto.input, kept-fits c.turn-told.result.used c.read_on-at_hand.result c.read_on-at_hand.new.bytes)
