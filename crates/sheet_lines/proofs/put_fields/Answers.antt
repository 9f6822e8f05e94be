-- The numbers left, written from where the loop stands, make the whole.
use Rattle.std.proofs.Common.{◌≡◌, [], drop, ◌∙◌, arith, drop_of_length-le}
use Rattle.sheet_lines.proofs.Texts.{fields-length, fields-more}
use Rattle.sheet_lines.proofs.put_fields.Goals as goal

pub put_field-place-requires : goal.put_field-place-requires
put_field-place-requires c = omega (arith, fields-length c.args.numbers.now c.loop-number.number-index (omega arith))

pub loop-number-preserved : goal.loop-number-preserved
loop-number-preserved c =
    let numbers = c.args.numbers.now in
    let k = c.loop-number.number-index in
    let w = c.put_field-place.ensures in
    record {
      place = omega (arith, w.place, fields-length numbers k (omega arith));
      buffer = fields-more numbers k (omega arith) w ∙ c.loop-number.invariant.buffer;
    }

pub returns : goal.returns
returns c =
    let l = c.loop-number in
    let e : drop l.number-index c.args.numbers.now ≡ [] = drop_of_length-le c.args.numbers.now {i = l.number-index} (omega arith) in
    record { buffer = rw e at l.invariant.buffer; place = omega (arith, rw e at l.invariant.place) }
