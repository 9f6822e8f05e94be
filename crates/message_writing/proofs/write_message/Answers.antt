-- A refusal leaves the buffer; else what the parts write is what meaning packs.
use mathlib.Core.Path.{◌≡◌, refl, sym, ◌∙◌}
use lib.ListN.{length}
use mathlib.Core.List.{List}
use Prim.Native.Nat.{ℕ}
use Rattle.std.proofs.Common.{rules}
use Rattle.std.specs.Prelude.{Err}
use Rattle.limits.specs.declared.refusals.Refusal.{Refusal}
use Rattle.limits.specs.Refusals.{number_of}
use Rattle.limits.proofs.AnswerNumbers.{not-done}
use Rattle.words.specs.Fields.{bytes_for}
use Rattle.words.specs.Rules.{answer}
use Rattle.meaning.specs.PackedMessages.{writing_rules, write_message, layout_of}
use Rattle.meaning.proofs.PackedMessageRules.{writing-done, writable}
use Rattle.messages.specs.Structs.{message_of}
use Rattle.messages.specs.declared.Message.{Message}
use Rattle.message_writing.specs.Structs.{message_written}
use Rattle.fields.specs.Fronts.{written_as}
use Rattle.message_writing.proofs.StructRanges.{held}
use Rattle.message_writing.proofs.WriteParts.{done-fits, message-into, layout-held}
use Rattle.message_writing.proofs.write_message.Goals as goal

-- a refusal is told, and leaves the buffer
refused : (m : Message) (out : List ℕ) (r : Refusal) → number_of r ≡ answer (writing_rules (message_of m) (length out))
    → (written_as (Err r) ≡ message_written (write_message (message_of m) out)) × (out ≡ (write_message (message_of m) out).out)
unfolding write_message message_written
refused m out r e = rw (← e, not-done r) (refl, refl)

pub returns-in_err-writing_refusal : goal.returns-in_err-writing_refusal
returns-in_err-writing_refusal c =
    let a = c.args in
    let e = refused a.m a.out.now c.in_err-writing_refusal.field-0.0 c.in_err-writing_refusal.ensures in search (rules, e)

pub shape_of-out : goal.shape_of-out
shape_of-out c = c.write_whole.auto.out

pub returns : goal.returns
unfolding message_written
returns c =
    let m = c.args.m in
    let out = c.args.out.now in
    let e : answer (writing_rules (message_of m) (length out)) ≡ 0 = sym c.in_ok-writing_refusal.ensures in
    let l : c.bytes_for.result ≡ bytes_for (layout_of (message_of m)) = c.bytes_for.ensures ∙ rw (c.count_of.ensures, layout-held m) in
    let h = held m c.well_formed.0 in
    rw (writing-done (message_of m) out e) (
      rw l refl,
      c.write_whole.ensures
          ∙ message-into m h (done-fits m h (length out) e) out (writable (message_of m) (length out) e).fits,
    )
