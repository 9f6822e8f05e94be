-- A held slot's day: all 50 places are right, and of the last four those past its length are blank. Each part of the table is a run of its places.
use borrow.Author.Tests.{leb-true}
use mathlib.Core.Bool.{◌&&◌, ◌||◌}
use mathlib.Core.Path.{refl, ap₂, ◌∙◌}
use Prim.Native.Nat.{◌+◌, ◌-◌}
use native.Mathlib.Omega.{arith}
use lib.Dec.{leb, ltb}
use Rattle.laws.proofs.Cases.{and_left, and_right}
use Rattle.meaning.specs.Ledgers.{the_mark}
use Rattle.ledger_soundness.specs.Parts.{blank, right}
use Rattle.ledger_soundness.proofs.Runs.{part-every, part-every-at}
use Rattle.ledger_soundness.proofs.Tables.{row-held, row-blank}
use Rattle.ledger_soundness.proofs.row_right.Goals as goal

pub overflow_sub-periods : goal.overflow_sub-periods
overflow_sub-periods c =
    let a = c.args in
    leb-true 46 a.periods (and_right a.held (leb 46 a.periods) c.if-held-periods.true)

pub returns-then-held-periods : goal.returns-then-held-periods
returns-then-held-periods c =
    let a = c.args in
    let side = a.side.now in
    let test = c.if-held-periods.true in
    let held = and_left a.held (leb 46 a.periods) test in
    let long = leb-true 46 a.periods (and_right a.held (leb 46 a.periods) test) in
    let all = c.all_right.ensures ∙ part-every right side the_mark a.base (a.base + 50) 50 refl c.requires.1 in
    let ends =
    c.blank_from.ensures
    ∙ part-every-at (λ k v. ltb k (a.periods - 46) || blank v) side the_mark (a.base + 46) (a.base + 50) 4 (omega arith) c.requires.1 in
    rw held (ap₂ ◌&&◌ all ends ∙ row-held side a.base a.periods long c.requires.0.most)

pub returns : goal.returns
returns c =
    let a = c.args in
    c.all_blank.ensures
    ∙ part-every blank a.side.now the_mark a.base (a.base + 50) 50 refl c.requires.1
    ∙ row-blank a.side.now a.base a.periods a.held c.requires.0 c.if-held-periods.false
