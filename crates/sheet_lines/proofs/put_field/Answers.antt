-- The space and the digits, one after the other.
use Rattle.decimals.proofs.Texts.{put_then}
use Rattle.sheet_lines.proofs.put_field.Goals as goal

pub returns : goal.returns
returns c = put_then c.requires c.put_word-start.ensures c.put_decimal.ensures
