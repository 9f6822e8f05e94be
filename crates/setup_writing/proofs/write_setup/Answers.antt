-- A refusal leaves the buffer; otherwise the parts are the packed setup.
use mathlib.Core.Path.{◌≡◌, sym, ap, ◌∙◌}
use Prim.Native.Nat.{ℕ}
use lib.ListN.{length}
use Rattle.std.proofs.Common.{Err, rules}
use Rattle.limits.proofs.AnswerNumbers.{not-done}
use Rattle.words.specs.Rules.{answer}
use Rattle.meaning.specs.PackedSetups.{setup_writing_rules, write_setup}
use Rattle.meaning.proofs.PackedSetupRules.{SetupWritable, setup-writable, setup-writing-done}
use Rattle.setups.specs.Structs.{setup_of}
use Rattle.setup_writing.specs.Structs.{setup_written}
use Rattle.fields.specs.Fronts.{written_as}
use Rattle.setup_writing.proofs.ValuesFit.{counted, layout-own}
use Rattle.setup_writing.proofs.WriteParts.{setup-into-length, setup-into-packed}
use Rattle.setup_writing.proofs.write_setup.Goals as goal

pub returns-in_err-writing_refusal : goal.returns-in_err-writing_refusal
unfolding setup_written write_setup
returns-in_err-writing_refusal c =
    let refusal = c.in_err-writing_refusal.field-0.0 in
    let given : c.from_residual.result ≡ Err refusal = search rules in
    let e = c.in_err-writing_refusal.ensures in
    (ap written_as given ∙ rw (← e, not-done refusal), rw (← e, not-done refusal))

pub shape_of-out : goal.shape_of-out
shape_of-out c =
    let a = c.args in
    ap length c.write_whole.ensures ∙ setup-into-length a.s a.out.now

pub returns : goal.returns
unfolding setup_written
returns c =
    let a = c.args in
    let s = a.s in
    let out = a.out.now in
    let e : answer (setup_writing_rules (setup_of s) (length out)) ≡ 0 =
    sym c.in_ok-writing_refusal.ensures in
    let w : SetupWritable (setup_of s) (length out) = setup-writable (setup_of s) (length out) e in
    let done = setup-writing-done (setup_of s) out e in (
      rw (done, layout-own s) (ap (λ (n : ℕ). record { answer = 0; length = n }) c.bytes_for.ensures),
      c.write_whole.ensures ∙ setup-into-packed s out (counted s w.counts) w.fits ∙ rw done,
    )
