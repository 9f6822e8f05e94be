-- A refusal leaves both tables; otherwise each is rewritten, and the other and the identifiers are still what they were.
use mathlib.Core.Path.{◌≡◌, sym, ap, ◌∙◌}
use Prim.Native.Nat.{ℕ}
use Rattle.std.proofs.lemmas.Result.{err_from_is_err_and}
use Rattle.limits.specs.Refusals.{number_of}
use Rattle.meaning.specs.Ledgers.{contracts, one, two}
use Rattle.meaning.specs.Books as Meaning
use Rattle.meaning.specs.Calls.{Call, refusal}
use Rattle.book.specs.Structs.{book_of}
use Rattle.book.proofs.OpeningLaws.{number-refuses}
use Rattle.calls.proofs.CallLaws.{nullification_call, nullification_answer, nullification-answer, nullification-rest, nullification-side, call-refused}
use Rattle.calls.proofs.sound_book.do_nullification.Goals as goal
use Rattle.calls.proofs.sound_book.do_nullification.Goals.{Start}

module _ (s : Start) where
  abbrev whole : Meaning.Book contracts
  whole = book_of s.args.b s.args.held.now s.args.side1.now s.args.side2.now

  abbrev number : ℕ
  number = nullification_answer s.args.b s.args.held.now s.args.side1.now s.args.side2.now s.args.x

  abbrev call : Call contracts
  call = nullification_call s.args.b s.args.held.now s.args.side1.now s.args.side2.now s.args.x

  same : number ≡ refusal whole call
  same = nullification-answer s.args.b s.args.held.now s.args.side1.now s.args.side2.now s.args.x

pub returns-in_err-judge_nullification : goal.returns-in_err-judge_nullification
returns-in_err-judge_nullification c =
    let a = c.args in
    let s = (goal.at.returns-in_err-judge_nullification c).Start in
    let r = c.in_err-judge_nullification.field-0.0 in
    let p = err_from_is_err_and c.from_residual.result c.from_residual.ensures.1 in
    let e : number_of r ≡ refusal (whole s) (call s) =
    c.in_err-judge_nullification.ensures ∙ sym (nullification-rest a.b a.held.now a.side1.now a.side2.now a.x c.requires) ∙ same s in
    let stays = call-refused (whole s) (call s) (λ z. number-refuses r (e ∙ z)) in
    rw (p.1, p.2) (
      e,
      sym (ap (λ (w : Meaning.Book contracts). w.ledger.side1) stays),
      sym (ap (λ (w : Meaning.Book contracts). w.ledger.side2) stays),
    )

pub returns : goal.returns
returns c =
    let a = c.args in
    let s = (goal.at.returns c).Start in
    let passed : number s ≡ 0 =
    nullification-rest a.b a.held.now a.side1.now a.side2.now a.x c.requires ∙ sym c.in_ok-judge_nullification.ensures in (
      sym passed ∙ same s,
      c.blank_pair.ensures one ∙ nullification-side a.b a.held.now a.side1.now a.side2.now a.x one c.requires passed,
      c.blank_pair-2.ensures two ∙ nullification-side a.b a.held.now a.side1.now a.side2.now a.x two c.requires passed,
    )
