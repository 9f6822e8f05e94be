-- The entry's originating authorisation is read from the array of them, and the place is meaning's index.
use Rattle.std.proofs.Common.{rules, ◌≡◌, length}
use native.Mathlib.Omega.{arith}
use Rattle.book.proofs.StateLaws.{place-few, origin-read}
use Rattle.position.proofs.DayLaws.{slots-few}
use Rattle.position.proofs.counting.slot_day.Goals as goal

pub offset_bounds-setup-origin_place : goal.offset_bounds-setup-origin_place
offset_bounds-setup-origin_place c = omega (arith, place-few _ c.origin_place.ensures)

pub bounds-setup-origin_place : goal.bounds-setup-origin_place
bounds-setup-origin_place c = place-few _ c.origin_place.ensures

-- a sound book's slots are few
pub overflow_cast-slot : goal.overflow_cast-slot
overflow_cast-slot c =
    let day = c.args.day.now in
    let v = day.view in
    omega (arith, c.requires, slots-few v.book v.held.now v.side1.now v.side2.now day.place day.asked)

pub returns : goal.returns
returns c =
    let b = c.args.day.now.view.book in
    let l : length b.setup.rows ≡ 64 = search rules in
    (origin-read b.setup _ l c.origin_place.ensures c.origin_row.ensures, c.place_of.ensures)
