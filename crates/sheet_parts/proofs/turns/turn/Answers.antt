-- The run, whose last answer may be kept for the next turn, and the lines of the others.
use Rattle.std.proofs.Common.{ℕ, ◌≤◌, ◌≡◌, ◌∙◌, min, length, refl, sym, arith, length-take-le}
use Rattle.meaning.specs.Ledgers.{contracts}
use Rattle.meaning.specs.Books.{Book}
use Rattle.meaning.specs.PackedCalls.{Run, run_answer, run_on}
use Rattle.book.specs.Structs.{book_of}
use Rattle.calls.specs.Answers.{ran_of, ran_seen}
use Rattle.calls.specs.declared.AppliedAll.{AppliedAll}
use Rattle.sheet_parts.proofs.Answers.{Stored, run-few, answers-inside, places-inside}
use Rattle.sheet_parts.proofs.TurnLaws.{goes-on, told-inside, turn-told}
use Rattle.sheet_parts.proofs.turns.turn.Goals as goal
use Rattle.sheet_parts.proofs.turns.turn.Goals.{After-count_told-told}

-- what is known once the outcomes to be told are counted
module _ (k : After-count_told-told) where
  abbrev before : Book contracts
  before = book_of k.args.b k.args.held.now k.args.side1.now k.args.side2.now

  abbrev room : ℕ
  room = min (length k.args.answers.now) (length k.args.places.now)

  abbrev run : Run
  run = run_on room before k.args.bytes.now

  -- the run that the code goes on with, and its answer
  abbrev ran : AppliedAll
  ran =
      record {
        answer = (ran_seen k.args.b k.apply_all-outcome.result).answer;
        done = k.unwrap_or-ran.result.done;
        used = k.unwrap_or-ran.result.used;
        book = k.unwrap_or-ran.result.book;
      }

  ran-is : ran ≡ ran_of k.args.b (run_answer before) run
  ran-is = goes-on k.args.b k.apply_all-outcome.result k.unwrap_or-ran.result k.unwrap_or-ran.ensures ∙ k.apply_all-outcome.ensures.0

  stored : Stored run.outcomes k.args.answers.now k.args.places.now k.apply_all-outcome.new.answers k.apply_all-outcome.new.places
  stored =
      record {
        answers-fit = omega (arith, run-few room before k.args.bytes.now);
        places-fit = omega (arith, run-few room before k.args.bytes.now);
        answers-stored = k.apply_all-outcome.ensures.4;
        places-stored = k.apply_all-outcome.ensures.5;
      }

  inside : k.count_told-told.result ≤ length run.outcomes
  inside =
      told-inside k.args.b k.args.ended (length k.args.bytes.now) (run_answer before) run ran stored ran-is
      k.last_of-last.result k.count_told-told.result k.is_kept-waiting.result k.last_of-last.ensures k.is_kept-waiting.ensures k.count_told-told.ensures

pub slice_bounds-put_message_lines-end : goal.slice_bounds-put_message_lines-end
slice_bounds-put_message_lines-end c =
    let k = (goal.at.slice_bounds-put_message_lines-end c).After-count_told-told in
    answers-inside (stored k) c.count_told-told.result (inside k)

pub slice_bounds-put_message_lines-end-2 : goal.slice_bounds-put_message_lines-end-2
slice_bounds-put_message_lines-end-2 c =
    let k = (goal.at.slice_bounds-put_message_lines-end-2 c).After-count_told-told in
    sym (length-take-le c.count_told-told.result _ (answers-inside (stored k) c.count_told-told.result (inside k)))

pub slice_bounds-put_message_lines-end-3 : goal.slice_bounds-put_message_lines-end-3
slice_bounds-put_message_lines-end-3 c =
    let k = (goal.at.slice_bounds-put_message_lines-end-3 c).After-count_told-told in
    places-inside (stored k) c.count_told-told.result (inside k)

pub slice_bounds-put_message_lines-end-4 : goal.slice_bounds-put_message_lines-end-4
slice_bounds-put_message_lines-end-4 c =
    let k = (goal.at.slice_bounds-put_message_lines-end-4 c).After-count_told-told in
    sym (length-take-le c.count_told-told.result _ (places-inside (stored k) c.count_told-told.result (inside k)))

pub returns : goal.returns
returns c =
    let k = (goal.at.returns c).After-count_told-told in
    let e = c.apply_all-outcome.ensures in
    let a = c.args in
    let p = c.put_message_lines-written in
    let t = turn-told a.b a.ended (length a.bytes.now) (run_answer (before k)) (run k) (ran k) (stored k) (ran-is k)
    c.last_of-last.result c.count_told-told.result c.is_kept-waiting.result c.last_of-last.ensures c.is_kept-waiting.ensures c.count_told-told.ensures
    a.seen a.out.now _ p.result _ _ refl p.ensures refl in
    (t.0, e.1, e.2, e.3, e.4, e.5, t.1)
