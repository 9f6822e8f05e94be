-- Where eight bytes end with the field, it is cut out of them; elsewhere out of those that hold it.
use mathlib.Core.Path.{◌∙◌}
use Prim.Native.Nat.{◌+◌, ◌-◌, ◌*◌, ◌/◌, ◌≤◌}
use native.Mathlib.Omega.{arith}
use lib.Dec.{leb}
use lib.ListN.{length}
use borrow.Author.Tests.{leb-true}
use Rattle.laws.proofs.Cases.{and_left, and_right}
use Rattle.laws.proofs.WideFields.{cut-same}
use Rattle.fields.proofs.whole_bytes.read_long.Goals as goal
use Rattle.fields.proofs.whole_bytes.read_long.Goals.{Then-end-src}

-- eight bytes end with the field's last one
module _ (c : Then-end-src) where
  eight-before : 8 ≤ (c.args.at + c.args.width + 7) / 8
  eight-before =
      let a = c.args in
      let end = (a.at + a.width + 7) / 8 in
      leb-true 8 end (and_left (leb 8 end) (leb end (length a.src.now)) c.if-end-src.true)

  inside : (c.args.at + c.args.width + 7) / 8 ≤ length c.args.src.now
  inside =
      let a = c.args in
      let end = (a.at + a.width + 7) / 8 in
      leb-true end (length a.src.now) (and_right (leb 8 end) (leb end (length a.src.now)) c.if-end-src.true)

pub overflow_sub-end : goal.overflow_sub-end
overflow_sub-end c = eight-before (goal.at.overflow_sub-end c).Then-end-src

pub eight_bytes-word-requires : goal.eight_bytes-word-requires
eight_bytes-word-requires c = omega (arith, eight-before (goal.at.eight_bytes-word-requires c).Then-end-src, inside (goal.at.eight_bytes-word-requires c).Then-end-src)

pub returns-then-end-src : goal.returns-then-end-src
returns-then-end-src c =
    let a = c.args in
    let end = (a.at + a.width + 7) / 8 in
    let enough = eight-before (goal.at.returns-then-end-src c).Then-end-src in
    c.cut.ensures
    ∙ rw c.eight_bytes-word.ensures (cut-same a.src.now ((end - 8) * 8) 64 a.at a.width (end * 8 - a.at - a.width) (omega arith) (omega arith))

pub returns : goal.returns
returns c = c.cut_out.ensures
