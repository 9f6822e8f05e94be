-- A store inside the bytes, and none past their end.
use mathlib.Core.Path.{sym}
use lib.Seq.{set_out}
use Rattle.fields.proofs.whole_bytes.put_byte.Goals as goal

pub returns-else-i-dst : goal.returns-else-i-dst
returns-else-i-dst c =
    sym (set_out c.args.dst.now c.args.i c.args.x c.if-i-dst.false)
