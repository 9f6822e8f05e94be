-- Past the refusals the period has its place in the day's row, and the two volumes there make the bar.
use borrow.Author.Rules.{rules, sfits_of}
use Rattle.std.specs.Prelude.{Err}
use Rattle.limits.specs.Refusals.{number_of}
use Rattle.limits.proofs.AnswerNumbers.{never-done}
use mathlib.Core.Bool.{true}
use mathlib.Core.Path.{◌≡◌, sym, ap, ap₂, ◌∙◌}
use Prim.Native.Nat.{ℕ}
use native.Mathlib.Omega.{arith}
use lib.ListN.{get_or}
use mir.Facts.{to_z-of_z}
use mir.Syntax.{w32}
use Rattle.words.specs.Rules.{answer}
use Rattle.meaning.specs.Time.{days, day_of, is_period}
use Rattle.meaning.specs.Authorisations.{Authorisation}
use Rattle.meaning.specs.Ledgers.{contracts, the_mark, index, identifier_of, slot_of}
use Rattle.meaning.specs.Books as Books
use Rattle.meaning.proofs.Clock.{is-period-on}
use Rattle.book.specs.Structs.{time_in}
use Rattle.setups.specs.Structs.{row_of}
use Rattle.bar.specs.Figures.{bar_seen}
use Rattle.marks.specs.Marks.{Marked, marked_of, marked, asking_rules}
use Rattle.bar.specs.declared.Bar.{Bar}
use Rattle.marks.proofs.RowLaws.{before, period-day, slot-few}
use Rattle.marks.proofs.MarkLaws.{asks, mark-earlier, mark-no-period, mark-done, marked_refused}
use Rattle.marks.proofs.MarkPlaces.{mark-at}
use Rattle.marks.proofs.periods.mark.Goals as goal
use Rattle.marks.proofs.periods.mark.Goals.{After-index_of-place, Else-not-is_period, In_ok-asking_refusal, Start}

module _ (s : Start) where
  abbrev identifier : ℕ
  identifier = identifier_of s.args.originator s.args.reference

  abbrev whole : Books.Book contracts
  whole = before s.args.view.book s.args.view.held.now s.args.view.side1.now s.args.view.side2.now identifier s.args.day

  abbrev asking : ℕ
  asking = answer (asking_rules whole identifier s.args.account)

  abbrev the_place : ℕ
  the_place = index (days (time_in s.args.view.book)) (slot_of s.args.view.held.now identifier) (day_of (time_in s.args.view.book) s.args.day) s.args.period

  abbrev made : ℕ → Bar → Marked
  made n x = record { answer = n; bar = x }

allowed : (c : In_ok-asking_refusal) → asking (goal.at.In_ok-asking_refusal c).Start ≡ 0
allowed c = sym c.in_ok-asking_refusal.ensures

is-a-period : (c : Else-not-is_period) → let a = c.args in is_period (time_in a.view.book) a.day a.period ≡ true
is-a-period c = sym c.is_period.ensures ∙ c.if-not-is_period.false

pub returns-in_err-asking_refusal : goal.returns-in_err-asking_refusal
returns-in_err-asking_refusal c =
    let a = c.args in
    let at = (goal.at.returns-in_err-asking_refusal c).Start in
    let refusal = c.in_err-asking_refusal.field-0.0 in
    let same : c.from_residual.result ≡ Err refusal = search rules in
    let asks : number_of refusal ≡ asking at = c.in_err-asking_refusal.ensures in
    ap marked_of same
    ∙ marked_refused (whole at) (identifier at) a.account a.day a.period (number_of refusal) (λ q. never-done refusal q)
    (asks ∙ mark-earlier (whole at) (identifier at) a.account a.day a.period (λ z. never-done refusal (asks ∙ z)))

pub returns-then-not-is_period : goal.returns-then-not-is_period
returns-then-not-is_period c =
    let a = c.args in
    let at = goal.at.returns-then-not-is_period c in
    marked_refused (whole at.Start) (identifier at.Start) a.account a.day a.period 16 (λ z. omega arith)
    (mark-no-period (whole at.Start) (identifier at.Start) a.account a.day a.period (allowed at.In_ok-asking_refusal) (sym c.is_period.ensures ∙ c.if-not-is_period.true))

pub invariant_of-asked : goal.invariant_of-asked
invariant_of-asked c =
    let a = c.args in
    record { of_book = period-day a.view.book a.day a.period (is-a-period (goal.at.invariant_of-asked c).Else-not-is_period) }

pub index_of-place-requires : goal.index_of-place-requires
index_of-place-requires c =
    let a = c.args in
    let w = asks (whole (goal.at.index_of-place-requires c).Start) (identifier (goal.at.index_of-place-requires c).Start) a.account (allowed (goal.at.index_of-place-requires c).In_ok-asking_refusal) in (
      rw c.slot_of-slot.ensures (slot-few a.view.book a.view.held.now a.view.side1.now a.view.side2.now (identifier (goal.at.index_of-place-requires c).Start) a.day w.is-sound w.is-held),
      (is-period-on (time_in a.view.book) a.day a.period (is-a-period (goal.at.index_of-place-requires c).Else-not-is_period)).1.low,
    )

placed : (c : After-index_of-place) → c.index_of-place.result ≡ the_place (goal.at.After-index_of-place c).Start
placed c = rw c.slot_of-slot.ensures at c.index_of-place.ensures

pub returns : goal.returns
unfolding marked
returns c =
    let a = c.args in
    let done = mark-done (whole (goal.at.returns c).Start) (identifier (goal.at.returns c).Start) a.account a.day a.period (allowed (goal.at.returns c).In_ok-asking_refusal) (is-a-period (goal.at.returns c).Else-not-is_period) in
    ap₂ (made (goal.at.returns c).Start) done
    (c.bar_of.ensures
    ∙ ap₂ (bar_seen (row_of c.row_of-row.result) a.account)
    (to_z-of_z {w = w32} (sfits_of c.volume_at-v.type_inv) ∙ c.volume_at-v.ensures)
    (to_z-of_z {w = w32} (sfits_of c.volume_at-w.type_inv) ∙ c.volume_at-w.ensures)
    ∙ ap (λ (row : Authorisation). bar_seen row a.account (get_or a.view.side1.now c.index_of-place.result the_mark) (get_or a.view.side2.now c.index_of-place.result the_mark)) c.row_of-row.ensures
    ∙ mark-at a.view.book a.view.held.now a.view.side1.now a.view.side2.now a.originator a.reference a.account a.day a.period (omega arith)
    c.index_of-place.result (placed (goal.at.returns c).After-index_of-place) (sym done))
