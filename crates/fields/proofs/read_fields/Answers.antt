-- After k turns the front holds the first k fields, and behind it stands what was there.
use mathlib.Core.Path.{◌≡◌, sym, ap, ap₂, ◌∙◌}
use mathlib.Core.List.{map}
use Prim.Native.Nat.{◌+◌, ◌<◌}
use native.Mathlib.Omega.{arith}
use lib.ListN.{length, take, get_or, length-map, length-set, length-take, get_or-map}
use Rattle.std.proofs.lemmas.List.{get_or-take}
use Rattle.words.specs.Fields.{total, field_at}
use Rattle.laws.proofs.FieldLoops.{total-more, fill_more}
use Rattle.fields.specs.Narrow.{narrow, fewest, read_into}
use Rattle.fields.proofs.read_fields.Goals as goal

pub loop-k-preserved : goal.loop-k-preserved
loop-k-preserved c =
    let a = c.args in
    let l = c.loop-k in
    let n = c.fewest_of-n.result in
    let ws = a.widths.now in
    let us = map narrow ws in
    let below : l.k < n = omega (arith, length-take n ws) in
    let inside : l.k < length us = omega (arith, length-map ws narrow, c.fewest_of-n.ensures) in
    let w : c.narrowed-w.result ≡ get_or us l.k 0 = c.narrowed-w.ensures ∙ ap narrow (get_or-take n ws l.k 0 below) ∙ sym (get_or-map narrow ws l.k 0) in
    let value : c.read_bits.result ≡ field_at a.src.now (a.at + total (take l.k us)) (get_or us l.k 0) =
    c.read_bits.ensures ∙ ap₂ (field_at a.src.now) l.invariant.0 w in (
      omega (arith, total-more us l.k inside, w),
      omega (arith, c.narrowed-w.ensures),
      rw (l.invariant.2, value) (fill_more a.out.now a.src.now a.at us l.k inside (omega (arith, c.fewest_of-n.ensures))),
      length-set l.out l.k c.read_bits.result ∙ l.invariant.3,
    )

pub returns : goal.returns
unfolding read_into
returns c =
    let a = c.args in
    let l = c.loop-k in
    let e : l.k ≡ fewest (length a.widths.now) (length a.out.now) = omega (arith, length-take c.fewest_of-n.result a.widths.now, c.fewest_of-n.ensures) in
    l.invariant.2 ∙ rw e
