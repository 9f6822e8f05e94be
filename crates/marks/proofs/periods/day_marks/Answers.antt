-- A refusal leaves the three buffers; otherwise the bars written are the marks of the day's periods.
use borrow.Author.Rules.{rules}
use Rattle.std.specs.Prelude.{Err}
use Rattle.limits.specs.Refusals.{number_of, answer_of}
use Rattle.limits.proofs.AnswerNumbers.{never-done}
use mathlib.Core.Bool.{Bool, true, false, ◌||◌}
use mathlib.Core.List.{List}
use mathlib.Core.Logic.{◌≢◌}
use mathlib.Core.Path.{◌≡◌, sym, ap, ◌∙◌}
use Prim.Native.Nat.{ℕ, suc, ◌<◌}
use native.Mathlib.Omega.{arith}
use lib.Dec.{ltb}
use lib.ListN.{length}
use Rattle.words.specs.Lists.{on_front}
use Rattle.words.specs.Rules.{answer}
use Rattle.meaning.specs.Time.{Time, has_day}
use Rattle.meaning.specs.Authorisations.{Authorisation}
use Rattle.meaning.specs.Ledgers.{contracts, identifier_of}
use Rattle.meaning.specs.Books as Books
use Rattle.meaning.specs.Bars.{mark}
use Rattle.book.specs.Structs.{time_in}
use Rattle.book.proofs.StateLaws.{clock-time}
use Rattle.setups.specs.Structs.{row_of}
use Rattle.bar.specs.Figures.{bar_for, case_of, first_of, second_of, no_figure}
use Rattle.marks.specs.Marks.{asking_rules, day_marked, bar_from}
use Rattle.bar.specs.declared.Bar.{Bar}
use Rattle.marks.proofs.RowLaws.{before, start, slot-few, row-few}
use Rattle.marks.proofs.MarkLaws.{Asks, asks}
use Rattle.marks.proofs.MarkPlaces.{day-marks-at}
use Rattle.marks.proofs.DayMarkLaws.{day_answer, periods_on, no_room, day-earlier, day-none, day-no-room, day-done, rooms, day-refused, day-written}
use Rattle.marks.proofs.periods.day_marks.Goals as goal
use Rattle.marks.proofs.periods.day_marks.Goals.{After-has_day, After-index_of-start, After-periods-periods, After-row_of-row, Else-cases-periods, Else-not-has_day, In_ok-asking_refusal, Start}

module _ (s : Start) where
  abbrev identifier : ℕ
  identifier = identifier_of s.args.originator s.args.reference

  abbrev whole : Books.Book contracts
  whole = before s.args.view.book s.args.view.held.now s.args.view.side1.now s.args.view.side2.now identifier s.args.day

  abbrev asking : ℕ
  asking = answer (asking_rules whole identifier s.args.account)

  abbrev the_answer : ℕ
  the_answer = day_answer whole identifier s.args.account s.args.day (length s.args.cases.now) (length s.args.firsts.now) (length s.args.seconds.now)

  abbrev the_start : ℕ
  the_start = start s.args.view.book s.args.view.held.now s.args.view.side1.now s.args.view.side2.now identifier s.args.day

  -- a buffer after the question, with an answer
  abbrev after : {A : Type 0} → (Bar → A) → ℕ → List A → List A
  after value n buffer = day_marked value whole identifier s.args.account s.args.day n buffer

  -- one of the buffers is shorter than n
  abbrev shorter : ℕ → Bool
  shorter n = ltb (length s.args.cases.now) n || ltb (length s.args.firsts.now) n || ltb (length s.args.seconds.now) n

  abbrev too_short : Bool
  too_short = no_room whole identifier s.args.account s.args.day (length s.args.cases.now) (length s.args.firsts.now) (length s.args.seconds.now)

  -- a refusal
  stopped : (n : ℕ) → n ≢ 0 → n ≡ the_answer
      → (n ≡ the_answer)
      × (s.args.cases.now ≡ after case_of the_answer s.args.cases.now)
      × (s.args.firsts.now ≡ after first_of the_answer s.args.firsts.now)
      × (s.args.seconds.now ≡ after second_of the_answer s.args.seconds.now)
  stopped n m e = (
    e,
    day-refused case_of whole identifier s.args.account s.args.day s.args.cases.now the_answer (λ z. m (e ∙ z)),
    day-refused first_of whole identifier s.args.account s.args.day s.args.firsts.now the_answer (λ z. m (e ∙ z)),
    day-refused second_of whole identifier s.args.account s.args.day s.args.seconds.now the_answer (λ z. m (e ∙ z)),
  )

-- ---- the tests

allowed : (c : In_ok-asking_refusal) → asking (goal.at.In_ok-asking_refusal c).Start ≡ 0
allowed c = sym c.in_ok-asking_refusal.ensures

has : (c : After-has_day) → let a = c.args in c.has_day.result ≡ has_day (time_in a.view.book) a.day
has c =
    let a = c.args in
    c.has_day.ensures ∙ ap (λ (t : Time). has_day t a.day) (clock-time a.view.book c.clock_of.ensures)

there : (c : Else-not-has_day) → let a = c.args in has_day (time_in a.view.book) a.day ≡ true
there c = sym (has (goal.at.Else-not-has_day c).After-has_day) ∙ c.if-not-has_day.false

room : (c : After-periods-periods) → shorter (goal.at.After-periods-periods c).Start c.periods-periods.result ≡ too_short (goal.at.After-periods-periods c).Start
room c =
    ap (shorter (goal.at.After-periods-periods c).Start) c.periods-periods.ensures

-- past the refusals
module _ (c : Else-cases-periods) where
  abbrev counted : After-periods-periods
  counted = (goal.at.Else-cases-periods c).After-periods-periods

  abbrev asked : In_ok-asking_refusal
  asked = (goal.at.After-periods-periods counted).In_ok-asking_refusal

  abbrev from : Start
  from = (goal.at.In_ok-asking_refusal asked).Start

  of-book : has_day (time_in from.args.view.book) from.args.day ≡ true
  of-book = there (goal.at.After-periods-periods counted).Else-not-has_day

  enough : too_short from ≡ false
  enough = sym (room counted) ∙ c.if-cases-periods.false

  done : 0 ≡ the_answer from
  done =
      let a = from.args in
      day-done (whole from) (identifier from) a.account a.day (length a.cases.now) (length a.firsts.now) (length a.seconds.now) (allowed asked) of-book enough

  shown : Asks (whole from) (identifier from) from.args.account
  shown = asks (whole from) (identifier from) from.args.account (allowed asked)

begins : (c : After-index_of-start) → c.index_of-start.result ≡ the_start (from (goal.at.After-index_of-start c).Else-cases-periods)
begins c = rw c.slot_of-slot.ensures at c.index_of-start.ensures

-- the bars that are written
module _ (c : After-row_of-row) where
  abbrev begun : After-index_of-start
  begun = (goal.at.After-row_of-row c).After-index_of-start

  abbrev passed : Else-cases-periods
  passed = (goal.at.After-index_of-start begun).Else-cases-periods

  abbrev first : Start
  first = from passed

  abbrev bars : ℕ → Bar
  bars = bar_from (row_of c.row_of-row.result) first.args.account first.args.view.side1.now first.args.view.side2.now begun.index_of-start.result

  bars-are : (p : ℕ) → p < periods_on (whole first) (identifier first) first.args.account first.args.day
      → bars p ≡ bar_for (mark (whole first) (identifier first) first.args.account first.args.day (suc p))
  bars-are p l =
      let a = first.args in
      ap (λ (row : Authorisation). bar_from row a.account a.view.side1.now a.view.side2.now begun.index_of-start.result p) c.row_of-row.ensures
      ∙ day-marks-at a.view.book a.view.held.now a.view.side1.now a.view.side2.now a.originator a.reference a.account a.day (omega (arith, first.ranges.reference))
      begun.index_of-start.result (begins begun) (allowed (asked passed)) (of-book passed) p l

  written : {A : Type 0} (value : Bar → A) (buffer : List A) (d : A)
      → on_front (counted passed).periods-periods.result (λ (p : ℕ) (old : A). value (bars p)) buffer ≡ after first value (the_answer first) buffer
  written {A} value buffer d =
      ap (λ (n : ℕ). on_front n (λ (p : ℕ) (old : A). value (bars p)) buffer) (counted passed).periods-periods.ensures
      ∙ day-written value (whole first) (identifier first) first.args.account first.args.day buffer bars d bars-are
      ∙ ap (λ (n : ℕ). after first value n buffer) (done passed)

pub returns-in_err-asking_refusal : goal.returns-in_err-asking_refusal
returns-in_err-asking_refusal c =
    let a = c.args in
    let at = (goal.at.returns-in_err-asking_refusal c).Start in
    let refusal = c.in_err-asking_refusal.field-0.0 in
    let same : c.from_residual.result ≡ Err refusal = search rules in
    let asks : number_of refusal ≡ asking at = c.in_err-asking_refusal.ensures in
    let earlier = day-earlier (whole at) (identifier at) a.account a.day (length a.cases.now) (length a.firsts.now) (length a.seconds.now) (λ z. never-done refusal (asks ∙ z)) in
    let kept = stopped at (number_of refusal) (λ q. never-done refusal q) (asks ∙ earlier) in
    (ap answer_of same ∙ kept.0, kept.1, kept.2, kept.3)

pub returns-then-not-has_day : goal.returns-then-not-has_day
returns-then-not-has_day c =
    let a = c.args in
    stopped (goal.at.returns-then-not-has_day c).Start 16 (λ z. omega arith)
    (day-none (whole (goal.at.returns-then-not-has_day c).Start) (identifier (goal.at.returns-then-not-has_day c).Start) a.account a.day (length a.cases.now) (length a.firsts.now) (length a.seconds.now) (allowed (goal.at.returns-then-not-has_day c).In_ok-asking_refusal) (sym (has (goal.at.returns-then-not-has_day c).After-has_day) ∙ c.if-not-has_day.true))

pub invariant_of-asked : goal.invariant_of-asked
invariant_of-asked c = record { of_book = there (goal.at.invariant_of-asked c).Else-not-has_day }

pub returns-then-cases-periods : goal.returns-then-cases-periods
returns-then-cases-periods c =
    let a = c.args in
    stopped (goal.at.returns-then-cases-periods c).Start 24 (λ z. omega arith)
    (day-no-room (whole (goal.at.returns-then-cases-periods c).Start) (identifier (goal.at.returns-then-cases-periods c).Start) a.account a.day (length a.cases.now) (length a.firsts.now) (length a.seconds.now) (allowed (goal.at.returns-then-cases-periods c).In_ok-asking_refusal) (there (goal.at.returns-then-cases-periods c).Else-not-has_day) (sym (room (goal.at.returns-then-cases-periods c).After-periods-periods) ∙ c.if-cases-periods.true))

pub index_of-start-requires : goal.index_of-start-requires
index_of-start-requires c =
    let a = (from (goal.at.index_of-start-requires c).Else-cases-periods).args in
    let few = slot-few a.view.book a.view.held.now a.view.side1.now a.view.side2.now (identifier (from (goal.at.index_of-start-requires c).Else-cases-periods)) a.day (shown (goal.at.index_of-start-requires c).Else-cases-periods).is-sound (shown (goal.at.index_of-start-requires c).Else-cases-periods).is-held in
    (rw c.slot_of-slot.ensures few, omega arith)

pub write_marks-requires : goal.write_marks-requires
write_marks-requires c =
    let p = passed (goal.at.write_marks-requires c).After-row_of-row in
    let a = (from p).args in
    let n = (counted p).periods-periods.ensures in
    let few = row-few a.view.book a.view.held.now a.view.side1.now a.view.side2.now (identifier (from p)) a.day (shown p).is-sound (shown p).is-held (of-book p) in
    let fit = rooms (whole (from p)) (identifier (from p)) a.account a.day (length a.cases.now) (length a.firsts.now) (length a.seconds.now) (enough p) in
    (omega (arith, few, begins (begun (goal.at.write_marks-requires c).After-row_of-row), n), omega (arith, fit.0, n), omega (arith, fit.1, n), omega (arith, fit.2, n))

pub returns : goal.returns
returns c =
    let a = (first (goal.at.returns c).After-row_of-row).args in (
      done (passed (goal.at.returns c).After-row_of-row),
      rw (written (goal.at.returns c).After-row_of-row case_of a.cases.now 0) at c.write_marks.ensures.0,
      rw (written (goal.at.returns c).After-row_of-row first_of a.firsts.now no_figure) at c.write_marks.ensures.1,
      rw (written (goal.at.returns c).After-row_of-row second_of a.seconds.now no_figure) at c.write_marks.ensures.2,
    )
