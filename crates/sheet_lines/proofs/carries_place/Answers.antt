-- The code is the definition.
use Rattle.std.proofs.Common.{◌≡◌, arith}
use Rattle.std.proofs.lemmas.Bool.Decides.{nat_tests}
use Rattle.meaning.specs.SheetLines.{carries_place}
use Rattle.sheet_lines.proofs.carries_place.Goals as goal

pub returns-then-answer-into : goal.returns-then-answer-into
unfolding carries_place
returns-then-answer-into c =
    let e : c.args.answer ≡ 10 = omega (arith, c.into.ensures) in
    simp (c.into.ensures, e)

pub returns-else-answer-into : goal.returns-else-answer-into
unfolding carries_place
returns-else-answer-into c = grind (arith, nat_tests, c.into.ensures, c.into-else-answer-into.ensures)
