-- Rule by rule: 1, 25, 15.
use mathlib.Core.Bool.{Bool, not, ◌&&◌}
use mathlib.Core.List.{List}
use mathlib.Core.Path.{◌≡◌, refl, sym, ap, ◌∙◌}
use Prim.Native.Nat.{ℕ}
use native.Mathlib.Omega.{arith}
use lib.Dec.{ltb}
use lib.ListN.{drop}
use Rattle.words.specs.Rules.{Rule, answer}
use Rattle.laws.proofs.RuleByRule.{passes, stops}
use Rattle.meaning.specs.Authorisations.{row_at, in_pair}
use Rattle.meaning.specs.Ledgers.{contracts, originator_of, identifier_of}
use Rattle.meaning.specs.Books as Books
use Rattle.meaning.proofs.Held.{held-is, unheld-is}
use Rattle.book.specs.Structs.{rows_in, book_of}
use Rattle.marks.specs.Marks.{asking_rules}
use Rattle.marks.proofs.RowLaws.{origin-of}
use Rattle.marks.proofs.asking.asking_refusal.Goals as goal
use Rattle.marks.proofs.asking.asking_refusal.Goals.{After-may_ask, Else-view-slot_of, Else-not-is_sound, Else-not-may_ask, Start}

module _ (s : Start) where
  abbrev whole : Books.Book contracts
  whole = book_of s.args.view.book s.args.view.held.now s.args.view.side1.now s.args.view.side2.now

  abbrev identifier : ℕ
  identifier = identifier_of s.args.originator s.args.reference

  abbrev rules : List Rule
  rules = asking_rules whole identifier s.args.account

  -- the first k rules pass
  abbrev Passed : ℕ → Type 0
  Passed k = answer rules ≡ answer (drop k rules)

  -- an account of the book and of an originator's pair
  abbrev may_ask : ℕ → Bool
  may_ask o = ltb s.args.account s.args.view.book.setup.accounts && in_pair (row_at (rows_in s.args.view.book.setup) o) s.args.account

asked : (c : After-may_ask) → c.may_ask.result ≡ may_ask (goal.at.After-may_ask c).Start (originator_of (identifier (goal.at.After-may_ask c).Start))
asked c =
    c.may_ask.ensures ∙ ap (may_ask (goal.at.After-may_ask c).Start) (sym (origin-of c.args.originator c.args.reference (omega arith)))

passed1 : (c : Else-not-is_sound) → Passed (goal.at.Else-not-is_sound c).Start 1
unfolding asking_rules
passed1 c =
    passes (rules (goal.at.Else-not-is_sound c).Start) 0 refl (ap not (sym c.is_sound.ensures ∙ c.if-not-is_sound.false))

passed2 : (c : Else-view-slot_of) → Passed (goal.at.Else-view-slot_of c).Start 2
unfolding asking_rules
passed2 c =
    passes (rules (goal.at.Else-view-slot_of c).Start) 1 (passed1 (goal.at.Else-view-slot_of c).Else-not-is_sound) (ap not (held-is c.args.view.held.now (identifier (goal.at.Else-view-slot_of c).Start) (rw c.slot_of.ensures at c.if-view-slot_of.false)))

passed3 : (c : Else-not-may_ask) → Passed (goal.at.Else-not-may_ask c).Start 3
unfolding asking_rules
passed3 c =
    passes (rules (goal.at.Else-not-may_ask c).Start) 2 (passed2 (goal.at.Else-not-may_ask c).Else-view-slot_of) (ap not (sym (asked (goal.at.Else-not-may_ask c).After-may_ask) ∙ c.if-not-may_ask.false))

pub returns-then-not-is_sound : goal.returns-then-not-is_sound
unfolding asking_rules
returns-then-not-is_sound c =
    stops (rules (goal.at.returns-then-not-is_sound c).Start) 0 refl (ap not (sym c.is_sound.ensures ∙ c.if-not-is_sound.true))

pub returns-then-view-slot_of : goal.returns-then-view-slot_of
unfolding asking_rules
returns-then-view-slot_of c =
    stops (rules (goal.at.returns-then-view-slot_of c).Start) 1 (passed1 (goal.at.returns-then-view-slot_of c).Else-not-is_sound) (ap not (unheld-is c.args.view.held.now (identifier (goal.at.returns-then-view-slot_of c).Start) (rw c.slot_of.ensures at c.if-view-slot_of.true)))

pub returns-then-not-may_ask : goal.returns-then-not-may_ask
unfolding asking_rules
returns-then-not-may_ask c =
    stops (rules (goal.at.returns-then-not-may_ask c).Start) 2 (passed2 (goal.at.returns-then-not-may_ask c).Else-view-slot_of) (ap not (sym (asked (goal.at.returns-then-not-may_ask c).After-may_ask) ∙ c.if-not-may_ask.true))

pub returns : goal.returns
unfolding answer asking_rules
returns c = sym (passed3 (goal.at.returns c).Else-not-may_ask)
