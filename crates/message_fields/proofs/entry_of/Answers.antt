-- Below the count, which stands in the six bits from bit 86 on, the entry that the bytes hold.
use mathlib.Core.Path.{◌∙◌}
use native.Mathlib.Omega.{arith}
use borrow.Author.Tests.{lt-ltb, le-ltb}
use Rattle.words.specs.Fields.{field_at}
use Rattle.message_fields.proofs.FieldLaws.{entry_at}
use Rattle.message_fields.proofs.entry_of.Goals as goal

pub returns-then-count-k : goal.returns-then-count-k
returns-then-count-k c =
    let s = c.args.bytes.now in
    let k = c.args.k in
    rw (entry_at s k c.requires, le-ltb k (field_at s 86 6) (omega arith))

pub returns : goal.returns
returns c =
    let s = c.args.bytes.now in
    let k = c.args.k in
    c.entry_in.ensures ∙ rw (entry_at s k c.requires, lt-ltb k (field_at s 86 6) (omega arith))
