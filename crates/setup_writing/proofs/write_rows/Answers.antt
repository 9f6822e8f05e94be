-- After k turns the rows below k are written.
use mathlib.Core.Path.{sym, ap, ◌∙◌}
use native.Mathlib.Omega.{arith}
use lib.ListN.{length}
use borrow.Author.Tests.{lt-ltb}
use Rattle.setup_writing.proofs.WriteParts.{rows-into-none, rows-into-more, rows-into-length, rows-capped}
use Rattle.setup_writing.proofs.write_rows.Goals as goal

pub loop-k-init : goal.loop-k-init
loop-k-init c = sym (rows-into-none _ _)

pub loop-k-preserved : goal.loop-k-preserved
loop-k-preserved c =
    let a = c.args in
    let l = c.loop-k in
    c.write_row.ensures ∙ rw (c.bits_for.ensures, l.invariant) (sym (rows-into-more a.s a.out.now l.k ∙ rw (lt-ltb l.k a.s.authorisations (omega arith))))

pub shape_of-out : goal.shape_of-out
shape_of-out c =
    let a = c.args in
    ap length c.loop-k.invariant ∙ rows-into-length a.s a.out.now c.loop-k.k

pub returns : goal.returns
returns c =
    let a = c.args in
    c.loop-k.invariant ∙ rows-capped a.s a.out.now c.loop-k.k (omega arith)
