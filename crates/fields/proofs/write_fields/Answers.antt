-- After k turns the first k fields are written.
use mathlib.Core.Path.{◌≡◌, sym, ap, ap₂, ◌∙◌}
use mathlib.Core.List.{List, map}
use Prim.Native.Nat.{ℕ, ◌<◌}
use native.Mathlib.Omega.{arith}
use lib.ListN.{length, take, get_or, length-map, length-take, get_or-map}
use Rattle.std.proofs.lemmas.List.{get_or-take}
use Rattle.words.specs.Fields.{set_field, write_all}
use Rattle.laws.proofs.FieldLoops.{total-more, write-fields-more}
use Rattle.laws.proofs.Layouts.{write-length}
use Rattle.fields.specs.Narrow.{narrow, fewest, write_from}
use Rattle.fields.proofs.write_fields.Goals as goal

pub loop-k-preserved : goal.loop-k-preserved
loop-k-preserved c =
    let a = c.args in
    let l = c.loop-k in
    let n = c.fewest_of-n.result in
    let ws = a.widths.now in
    let us = map narrow ws in
    let below : l.k < n = omega (arith, length-take n ws) in
    let inside : l.k < length us = omega (arith, length-map ws narrow, c.fewest_of-n.ensures) in
    let w : c.narrowed-w.result ≡ get_or us l.k 0 = c.narrowed-w.ensures ∙ ap narrow (get_or-take n ws l.k 0 below) ∙ sym (get_or-map narrow ws l.k 0) in
    let value = get_or a.values.now l.k 0 in
    let before = write_all a.dst.now a.at (take l.k us) (take l.k a.values.now) in (
      omega (arith, total-more us l.k inside, w),
      omega (arith, c.narrowed-w.ensures),
      c.write_bits.ensures
          ∙ ap (λ (s : List ℕ). set_field s l.p c.narrowed-w.result value) l.invariant.2
          ∙ ap₂ (λ (p width : ℕ). set_field before p width value) l.invariant.0 w
          ∙ sym (write-fields-more us l.k inside a.dst.now a.at a.values.now (omega (arith, c.fewest_of-n.ensures))),
    )

pub shape_of-dst : goal.shape_of-dst
shape_of-dst c =
    let a = c.args in
    let l = c.loop-k in
    ap length l.invariant.2 ∙ write-length a.dst.now a.at (take l.k (map narrow a.widths.now)) (take l.k a.values.now)

pub returns : goal.returns
unfolding write_from
returns c =
    let a = c.args in
    let l = c.loop-k in
    let e : l.k ≡ fewest (length a.widths.now) (length a.values.now) = omega (arith, length-take c.fewest_of-n.result a.widths.now, c.fewest_of-n.ensures) in
    l.invariant.2 ∙ rw e
