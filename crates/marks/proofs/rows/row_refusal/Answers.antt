-- Rule by rule: 1, 25, 16.
use borrow.Author.Rules.{rules}
use mathlib.Core.Bool.{not, ◌&&◌}
use mathlib.Core.List.{List}
use mathlib.Core.Path.{◌≡◌, refl, sym, ap, ap₂, ◌∙◌}
use Prim.Native.Nat.{ℕ}
use lib.ListN.{drop}
use Rattle.words.specs.Tests.{between}
use Rattle.words.specs.Rules.{Rule, answer}
use Rattle.laws.proofs.RuleByRule.{passes, stops}
use Rattle.meaning.specs.Time.{Time, has_day}
use Rattle.meaning.specs.Ledgers.{contracts, identifier_of}
use Rattle.meaning.specs.Books as Books
use Rattle.meaning.specs.Rows.{row_rules}
use Rattle.meaning.proofs.Held.{held-is, unheld-is}
use Rattle.book.specs.Structs.{time_in, book_of}
use Rattle.book.proofs.StateLaws.{clock-time}
use Rattle.marks.proofs.rows.row_refusal.Goals as goal
use Rattle.marks.proofs.rows.row_refusal.Goals.{After-contains, Else-view-slot_of, Else-not-has_day-contains, Else-not-is_sound, Start}

module _ (s : Start) where
  abbrev whole : Books.Book contracts
  whole = book_of s.args.view.book s.args.view.held.now s.args.view.side1.now s.args.view.side2.now

  abbrev identifier : ℕ
  identifier = identifier_of s.args.originator s.args.reference

  abbrev refusals : List Rule
  refusals = row_rules whole identifier s.args.day s.args.side

  -- the first k refusals pass
  abbrev Passed : ℕ → Type 0
  Passed k = answer refusals ≡ answer (drop k refusals)

-- the day and the side, as the code tests them
tested : (c : After-contains) → let a = c.args in
    (c.has_day-has_day.result && c.contains.result) ≡ (has_day (time_in a.view.book) a.day && between 1 2 a.side)
tested c =
    let a = c.args in
    let of-side : c.contains.result ≡ between 1 2 a.side = search rules in
    ap₂ ◌&&◌ (c.has_day-has_day.ensures ∙ ap (λ (t : Time). has_day t a.day) (clock-time a.view.book c.clock_of.ensures)) of-side

passed1 : (c : Else-not-is_sound) → Passed (goal.at.Else-not-is_sound c).Start 1
unfolding row_rules
passed1 c =
    passes (refusals (goal.at.Else-not-is_sound c).Start) 0 refl (ap not (sym c.is_sound.ensures ∙ c.if-not-is_sound.false))

passed2 : (c : Else-view-slot_of) → Passed (goal.at.Else-view-slot_of c).Start 2
unfolding row_rules
passed2 c =
    passes (refusals (goal.at.Else-view-slot_of c).Start) 1 (passed1 (goal.at.Else-view-slot_of c).Else-not-is_sound) (ap not (held-is c.args.view.held.now (identifier (goal.at.Else-view-slot_of c).Start) (rw c.slot_of.ensures at c.if-view-slot_of.false)))

passed3 : (c : Else-not-has_day-contains) → Passed (goal.at.Else-not-has_day-contains c).Start 3
unfolding row_rules
passed3 c =
    passes (refusals (goal.at.Else-not-has_day-contains c).Start) 2 (passed2 (goal.at.Else-not-has_day-contains c).Else-view-slot_of) (ap not (sym (tested (goal.at.Else-not-has_day-contains c).After-contains) ∙ c.if-not-has_day-contains.false))

pub returns-then-not-is_sound : goal.returns-then-not-is_sound
unfolding row_rules
returns-then-not-is_sound c =
    stops (refusals (goal.at.returns-then-not-is_sound c).Start) 0 refl (ap not (sym c.is_sound.ensures ∙ c.if-not-is_sound.true))

pub returns-then-view-slot_of : goal.returns-then-view-slot_of
unfolding row_rules
returns-then-view-slot_of c =
    stops (refusals (goal.at.returns-then-view-slot_of c).Start) 1 (passed1 (goal.at.returns-then-view-slot_of c).Else-not-is_sound) (ap not (unheld-is c.args.view.held.now (identifier (goal.at.returns-then-view-slot_of c).Start) (rw c.slot_of.ensures at c.if-view-slot_of.true)))

pub returns-then-not-has_day-contains : goal.returns-then-not-has_day-contains
unfolding row_rules
returns-then-not-has_day-contains c =
    stops (refusals (goal.at.returns-then-not-has_day-contains c).Start) 2 (passed2 (goal.at.returns-then-not-has_day-contains c).Else-view-slot_of) (ap not (sym (tested (goal.at.returns-then-not-has_day-contains c).After-contains) ∙ c.if-not-has_day-contains.true))

pub returns : goal.returns
unfolding answer row_rules
returns c = sym (passed3 (goal.at.returns c).Else-not-has_day-contains)
