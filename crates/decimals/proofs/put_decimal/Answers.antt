-- The digits that are left, stored before those already there, make the whole of the number.
use Rattle.std.proofs.Common.{◌≡◌, ◌+◌, ◌-◌, ◌≤◌, length, sym, ap, ◌∙◌, arith}
use lib.Seq.{sets}
use Rattle.meaning.specs.Decimals.{decimal}
use Rattle.decimals.proofs.Digits.{last_digits, last-all, last-stored}
use Rattle.decimals.proofs.Texts.{is-room, room-free, put-with}
use Rattle.decimals.proofs.put_decimal.Goals as goal
use Rattle.decimals.proofs.put_decimal.Goals.{Else-not-has_room}

free : (c : Else-not-has_room) → let a = c.args in a.at + c.digit_count-count.result ≤ length a.out.now
free c = let a = c.args in room-free (length a.out.now) a.at c.digit_count-count.result (sym c.has_room.ensures ∙ c.if-not-has_room.false)

pub overflow_add-after : goal.overflow_add-after
overflow_add-after c = omega (arith, free c)

pub loop-place-init : goal.loop-place-init
loop-place-init c =
    let a = c.args in
    let count = c.digit_count-count.result in
    let e : a.at + count - a.at ≡ count = omega arith in
    record {
      inside = free c;
      digits = ap (sets a.out.now a.at) (ap (λ k. last_digits k a.number) e ∙ last-all count a.number (sym c.digit_count-count.ensures));
    }

pub loop-place-preserved : goal.loop-place-preserved
loop-place-preserved c =
    let a = c.args in
    let l = c.loop-place in
    record {
      inside = l.invariant.inside;
      digits = rw c.last_digit.ensures (last-stored l.out a.at l.place l.rest (omega arith)) ∙ l.invariant.digits;
    }

pub returns : goal.returns
unfolding last_digits
returns c =
    let a = c.args in
    let l = c.loop-place in
    let counted = c.digit_count-count.ensures in
    let none : l.place - a.at ≡ 0 = omega arith in
    put-with (is-room (length a.out.now) a.at (length (decimal a.number)) (rw counted at l.invariant.inside))
    (record { buffer = rw none at l.invariant.digits; place = ap (λ n. a.at + n) counted })
