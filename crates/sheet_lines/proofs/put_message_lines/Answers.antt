-- The lines of the outcomes left, placed from where the loop stands, make the whole.
use Rattle.std.proofs.Common.{◌≡◌, ◌<◌, [], length, get_or, drop, refl, sym, ◌∙◌, arith, drop_of_length-le}
use Rattle.std.proofs.lemmas.List.{length_push}
use Rattle.std.proofs.lemmas.Slice.Zip.{zip_turn, zip_end}
use Rattle.words.specs.Rules.{placeless}
use Rattle.meaning.specs.SheetLines.{message_lines}
use Rattle.sheet_lines.specs.Outcomes.{outcomes_of}
use Rattle.sheet_lines.specs.Places.{all_placed, place_after_all}
use Rattle.sheet_lines.proofs.Outcomes.{outcomes-count, outcome-at}
use Rattle.sheet_lines.proofs.Sequences.{message-placed, message-after}
use Rattle.sheet_lines.proofs.put_message_lines.Goals as goal

pub loop-answer-preserved : goal.loop-answer-preserved
loop-answer-preserved c =
    let answers = c.args.answers.now in
    let places = c.args.places.now in
    let told = outcomes_of answers places in
    let l = c.loop-answer in
    let k = length l.yielded in
    let w = c.put_message_line-next in
    let turn = zip_turn answers places l.yielded c.into_iter-answer-iterator.result l.answer-iterator c.next.new.self c.next.result (cc) (cc) l.yielded_by (c.in-Some.answer, c.in-Some.place) c.in-Some.is c.next.ensures.steps in
    let here : record { answer = c.in-Some.answer.now; place = c.in-Some.place.now } ≡ get_or told k (placeless 0) = (λ i. record { answer = turn.2 0 i; place = turn.3 0 i }) ∙ sym (outcome-at answers places k turn.0 turn.1) in
    let more : k < length told = omega (arith, outcomes-count answers places, turn.0, turn.1) in
    let line = rw here at w.ensures in
    rw (length_push l.yielded (c.in-Some.answer, c.in-Some.place))
    (record {
      buffer = message-placed told k l.number more l.out _ l.next w.result _ line.0 line.1 refl ∙ l.invariant.buffer;
      place = message-after told k l.number more (length c.args.out.now) l.next w.result _ (rw l.auto.out at line.1) refl ∙ l.invariant.place;
    })

pub returns : goal.returns
unfolding message_lines all_placed place_after_all
returns c =
    let answers = c.args.answers.now in
    let places = c.args.places.now in
    let l = c.loop-answer in
    let end = zip_end answers places l.yielded c.into_iter-answer-iterator.result l.answer-iterator c.next.new.self c.next.result (cc) (cc) l.yielded_by c.in-None.is c.next.ensures.steps in
    let e : drop (length l.yielded) (outcomes_of answers places) ≡ [] = drop_of_length-le (outcomes_of answers places) {i = length l.yielded} (omega (arith, end, outcomes-count answers places)) in
    (rw e at l.invariant.buffer, rw e at l.invariant.place)
