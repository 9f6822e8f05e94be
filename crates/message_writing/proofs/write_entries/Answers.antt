-- The loop's invariant: the entries passed are written behind the head.
use mathlib.Core.Path.{◌≡◌, sym, ap, ◌∙◌}
use Prim.Native.Nat.{min}
use native.Mathlib.Omega.{arith}
use lib.IntN.{ℤ}
use lib.ListN.{length, get_or}
use mir.Facts.{to_z-of_z}
use mir.Syntax.{w32}
use Rattle.fields.specs.Narrow.{volume_bits, write_from}
use Rattle.messages.specs.Structs.{no_entry}
use Rattle.message_writing.specs.Writing.{entries_into, entries_written}
use Rattle.message_writing.proofs.WriteParts.{into-none, into_more, into-length}
use Rattle.message_writing.proofs.write_entries.Goals as goal

pub loop-k-init : goal.loop-k-init
loop-k-init c = sym (into-none c.args.n c.args.out.now)

pub loop-k-preserved : goal.loop-k-preserved
unfolding write_from
loop-k-preserved c =
    let a = c.args in
    let l = c.loop-k in
    let z : ℤ = (get_or a.n.entries l.k no_entry).volume in
    let call = c.bits_of_volume in
    let bits : call.result ≡ volume_bits z = call.ensures ∙ ap volume_bits (to_z-of_z {w = w32} (record { sfits = search })) in
    c.write_fields.ensures ∙ rw (bits, l.invariant) (sym (into_more a.n a.out.now l.k))

pub shape_of-out : goal.shape_of-out
shape_of-out c =
    let a = c.args in
    ap length c.loop-k.invariant ∙ into-length a.n a.out.now c.loop-k.k

pub returns : goal.returns
unfolding entries_written
returns c =
    let a = c.args in
    let e : c.loop-k.k ≡ min a.n.count 50 = omega (arith, c.entries_inside-k-end.ensures) in
    c.loop-k.invariant ∙ ap (entries_into a.n a.out.now) e
