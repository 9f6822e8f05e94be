-- Each refusal is the rule of its test, by what the struct's types hold.
use mathlib.Core.Path.{◌≡◌, sym, ap, ◌∙◌}
use native.Mathlib.Omega.{arith}
use Rattle.words.specs.Fields.{bytes_for}
use Rattle.meaning.specs.PackedMessages.{layout_for}
use Rattle.message_writing.specs.Writing.{count_of}
use Rattle.messages.specs.Parts.{kind_refusal}
use Rattle.message_writing.proofs.StructRanges.{held}
use Rattle.message_writing.proofs.WriteParts.{refused-20, refused-23, refused-24, refused_none}
use Rattle.message_writing.proofs.writing_refusal.Goals as goal
use Rattle.message_writing.proofs.writing_refusal.Goals.{After-bytes_for}

pub returns-then-m-eq3 : goal.returns-then-m-eq3
returns-then-m-eq3 c =
    let a = c.args in
    let told : kind_refusal a.m.kind ≡ 20 = ap kind_refusal c.if-m-eq3.true in
    omega (arith, c.kind_refusal.ensures, told, refused-20 a.m a.room c.if-m-eq3.true)

pub returns-then-not-message_fits : goal.returns-then-not-message_fits
returns-then-not-message_fits c =
    sym
    (refused-23 c.args.m c.args.room (held c.args.m c.well_formed.0) c.if-m-eq3.false
    (sym c.message_fits.ensures ∙ c.if-not-message_fits.true))

-- the bytes that the whole message takes
whole : (c : After-bytes_for) → c.bytes_for.result ≡ bytes_for (layout_for c.args.m.kind (count_of c.args.m))
whole c = c.bytes_for.ensures ∙ rw c.count_of.ensures

pub returns-then-room-bytes_for : goal.returns-then-room-bytes_for
returns-then-room-bytes_for c =
    sym
    (refused-24 c.args.m c.args.room (held c.args.m c.well_formed.0) c.if-m-eq3.false
    (sym c.message_fits.ensures ∙ c.if-not-message_fits.false)
    (omega (arith, whole (goal.at.returns-then-room-bytes_for c).After-bytes_for, c.if-room-bytes_for.true)))

pub returns : goal.returns
returns c =
    sym
    (refused_none c.args.m c.args.room (held c.args.m c.well_formed.0) c.if-m-eq3.false
    (sym c.message_fits.ensures ∙ c.if-not-message_fits.false)
    (omega (arith, whole (goal.at.returns c).After-bytes_for, c.if-room-bytes_for.false)))
