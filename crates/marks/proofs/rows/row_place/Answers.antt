-- Past the refusals the identifier has its slot and the book its day, so the place is the one that the definition names.
use borrow.Author.Rules.{rules}
use lib.Dec.{eqb}
use Rattle.laws.proofs.Cases.{on}
use Rattle.std.specs.Prelude.{Err}
use Rattle.limits.specs.Refusals.{number_of}
use Rattle.limits.proofs.AnswerNumbers.{never-done}
use Rattle.marks.specs.Rows.{row_placed}
use mathlib.Core.Path.{◌≡◌, sym, ◌∙◌}
use Prim.Native.Nat.{ℕ, ◌<◌}
use native.Mathlib.Omega.{arith}
use Rattle.meaning.specs.Ledgers.{identifier_of, one, two}
use Rattle.marks.proofs.RowLaws.{start, row_inside, row_answer, Shown, shown, slot-few}
use Rattle.marks.proofs.PlaceLaws.{placed, place-refused, place_at_lem}
use Rattle.marks.proofs.rows.row_place.Goals as goal
use Rattle.marks.proofs.rows.row_place.Goals.{After-periods-length, After-slot_of-slot, In_ok-row_refusal, Start}

module _ (s : Start) where
  abbrev identifier : ℕ
  identifier = identifier_of s.args.originator s.args.reference

  abbrev the_answer : ℕ
  the_answer = row_answer s.args.view.book s.args.view.held.now s.args.view.side1.now s.args.view.side2.now identifier s.args.day s.args.side

  abbrev the_start : ℕ
  the_start = start s.args.view.book s.args.view.held.now s.args.view.side1.now s.args.view.side2.now identifier s.args.day

  abbrev Asked : Type 0
  Asked = Shown s.args.view.book s.args.view.held.now s.args.view.side1.now s.args.view.side2.now identifier s.args.day s.args.side

allowed : (c : In_ok-row_refusal) → the_answer (goal.at.In_ok-row_refusal c).Start ≡ 0
allowed c = sym c.in_ok-row_refusal.ensures

asked : (c : In_ok-row_refusal) → Asked (goal.at.In_ok-row_refusal c).Start
asked c =
    let a = c.args in
    shown a.view.book a.view.held.now a.view.side1.now a.view.side2.now (identifier (goal.at.In_ok-row_refusal c).Start) a.day a.side (allowed c)

few-slots : (c : After-slot_of-slot) → c.slot_of-slot.result < 256
few-slots c =
    let a = c.args in
    let w = asked (goal.at.After-slot_of-slot c).In_ok-row_refusal in
    rw c.slot_of-slot.ensures (slot-few a.view.book a.view.held.now a.view.side1.now a.view.side2.now (identifier (goal.at.After-slot_of-slot c).Start) a.day w.is-sound w.is-held)

pub returns-in_err-row_refusal-clause-placed : goal.returns-in_err-row_refusal-clause-placed
returns-in_err-row_refusal-clause-placed c =
    let a = c.args in
    let v = a.view in
    let at = (goal.at.returns-in_err-row_refusal-clause-placed c).Start in
    let refusal = c.in_err-row_refusal.field-0.0 in
    let same : c.from_residual.result ≡ Err refusal = search rules in
    let asks : number_of refusal ≡ the_answer at = c.in_err-row_refusal.ensures in
    let refused = place-refused v.book v.held.now v.side1.now v.side2.now (identifier at) a.day a.side (λ e. never-done refusal (asks ∙ e)) in
    rw same (placed v.book v.held.now v.side1.now v.side2.now (identifier at) a.day a.side (row_placed (Err refusal)) (rw asks (sym refused)))

pub index_of-start-requires : goal.index_of-start-requires
index_of-start-requires c = (few-slots (goal.at.index_of-start-requires c).After-slot_of-slot, omega arith)

pub invariant_of-asked : goal.invariant_of-asked
invariant_of-asked c = record { of_book = (asked (goal.at.invariant_of-asked c).In_ok-row_refusal).of-book }

-- the place, as the code finds it
module _ (c : After-periods-length) where
  begins : c.index_of-start.result ≡ the_start (goal.at.After-periods-length c).Start
  begins = rw c.slot_of-slot.ensures at c.index_of-start.ensures

pub returns-clause-placed : goal.returns-clause-placed
returns-clause-placed c =
    let a = c.args in
    let v = a.view in
    let at = goal.at.returns-clause-placed c in
    let from = c.index_of-start.result in
    let long = c.periods-length.result in
    placed v.book v.held.now v.side1.now v.side2.now (identifier at.Start) a.day a.side (record { answer = 0; start = from; length = long })
    (place_at_lem v.book v.held.now v.side1.now v.side2.now (identifier at.Start) a.day a.side from long (allowed at.In_ok-row_refusal) (begins at.After-periods-length) c.periods-length.ensures)

pub returns-clause-inside : goal.returns-clause-inside
returns-clause-inside c =
    let a = c.args in
    let v = a.view in
    let at = goal.at.returns-clause-inside c in
    let w = asked at.In_ok-row_refusal in
    let inside = row_inside v.book v.held.now v.side1.now v.side2.now (identifier at.Start) a.day w.is-sound w.is-held w.of-book in
    on (eqb a.side 1)
    (λ e. rw e (omega (arith, inside one, begins at.After-periods-length, c.periods-length.ensures)))
    (λ e. rw e (omega (arith, inside two, begins at.After-periods-length, c.periods-length.ensures)))
