-- Where there is room, the part of the buffer that is copied to is in the buffer.
use Rattle.std.proofs.Common.{◌+◌, ◌≤◌, length, refl, sym, ◌∙◌, arith}
use Rattle.laws.proofs.PartStores.{put_mid-sets}
use Rattle.decimals.proofs.Texts.{is-room, room-free, put-with}
use Rattle.decimals.proofs.put_word.Goals as goal
use Rattle.decimals.proofs.put_word.Goals.{Else-not-has_room}

free : (c : Else-not-has_room) → let a = c.args in a.at + length a.word.now ≤ length a.out.now
free c =
    let a = c.args in
    room-free (length a.out.now) a.at (length a.word.now) (sym c.has_room.ensures ∙ c.if-not-has_room.false)

pub overflow_add-after : goal.overflow_add-after
overflow_add-after c = omega (arith, free (goal.at.overflow_add-after c).Else-not-has_room)

pub slice_bounds-copy_from_slice-end : goal.slice_bounds-copy_from_slice-end
slice_bounds-copy_from_slice-end c = free (goal.at.slice_bounds-copy_from_slice-end c).Else-not-has_room

pub returns : goal.returns
returns c =
    let a = c.args in
    let room = free (goal.at.returns c).Else-not-has_room in
    put-with (is-room (length a.out.now) a.at (length a.word.now) room)
    (record { buffer = rw c.copy_from_slice.ensures.after (put_mid-sets a.out.now a.at _ a.word.now (omega arith) (omega arith)); place = refl })
