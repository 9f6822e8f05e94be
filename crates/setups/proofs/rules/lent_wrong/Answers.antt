-- The slots are in bounds where the lent lengths are compared.
use mathlib.Core.Path.{◌≡◌, sym, ◌∙◌}
use mathlib.Core.Bool.{true}
use Prim.Native.Nat.{◌*◌, ◌≤◌}
use native.Mathlib.Omega.{arith}
use native.Mathlib.Nat.{mul-le-mul}
use borrow.Author.Tests.{leb-true}
use Rattle.words.specs.Tests.{◌≤?◌, between}
use Rattle.laws.proofs.Cases.{and_right}
use Rattle.laws.proofs.Ranges.{contained}
use Rattle.meaning.specs.Books.{lent_wrong}
use Rattle.setups.specs.Structs.{setup_of}
use Rattle.setups.proofs.SetupHeld.{codes-own}
use Rattle.setups.proofs.rules.lent_wrong.Goals as goal
use Rattle.setups.proofs.rules.lent_wrong.Goals.{After-contains, Else-not-contains}

slots-tested : (c : After-contains) → c.contains.result ≡ between 1 256 c.args.slots
slots-tested c =
    let n = c.new.ensures in
    c.contains.ensures.value ∙ contained c.new.result _ _ c.args.slots n.start n.end n.exhausted

pub returns-then-not-contains : goal.returns-then-not-contains
unfolding lent_wrong setup_of
returns-then-not-contains c =
    rw (sym (slots-tested (goal.at.returns-then-not-contains c).After-contains) ∙ c.if-not-contains.true)

module _ (c : Else-not-contains) where
  slots_right : between 1 256 c.args.slots ≡ true
  slots_right = sym (slots-tested (goal.at.Else-not-contains c).After-contains) ∙ c.if-not-contains.false

  few-slots : c.args.slots ≤ 256
  few-slots = leb-true c.args.slots 256 (and_right (1 ≤? c.args.slots) (c.args.slots ≤? 256) slots_right)

  -- at most 256 slots of at most 255 days
  few-places : c.args.slots * c.args.s.days ≤ 256 * 256
  few-places =
      let a = c.args in
      mul-le-mul {n₁ = a.slots} {m₁ = a.s.days} {n₂ = 256} {m₂ = 256} few-slots (omega arith)

pub overflow_mul-places : goal.overflow_mul-places
overflow_mul-places c = omega (arith, few-places (goal.at.overflow_mul-places c).Else-not-contains)

pub overflow_mul-places-2 : goal.overflow_mul-places-2
overflow_mul-places-2 c = omega (arith, few-places (goal.at.overflow_mul-places-2 c).Else-not-contains)

pub returns : goal.returns
unfolding lent_wrong setup_of
returns c = rw (slots_right (goal.at.returns c).Else-not-contains, codes-own)
