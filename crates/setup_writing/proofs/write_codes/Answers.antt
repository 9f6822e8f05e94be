-- After d turns the codes of the days below d are written.
use mathlib.Core.Path.{sym, ap, ◌∙◌}
use native.Mathlib.Omega.{arith}
use lib.ListN.{length}
use borrow.Author.Tests.{lt-ltb}
use Rattle.setup_writing.proofs.WriteParts.{codes-into-none, codes-into-more, codes-into-length, codes-capped}
use Rattle.setup_writing.proofs.write_codes.Goals as goal

pub loop-d-init : goal.loop-d-init
loop-d-init c = sym (codes-into-none _ _)

pub loop-d-preserved : goal.loop-d-preserved
loop-d-preserved c =
    let a = c.args in
    let l = c.loop-d in
    c.write_field.ensures ∙ rw l.invariant (sym (codes-into-more a.s a.out.now l.d ∙ rw (lt-ltb l.d a.s.days (omega arith))))

pub shape_of-out : goal.shape_of-out
shape_of-out c =
    let a = c.args in
    ap length c.loop-d.invariant ∙ codes-into-length a.s a.out.now c.loop-d.d

pub returns : goal.returns
returns c =
    let a = c.args in
    c.loop-d.invariant ∙ codes-capped a.s a.out.now c.loop-d.d (omega arith)
