-- Too many days, too many slots, or the two lengths decide.
use mathlib.Core.Path.{sym}
use Prim.Native.Nat.{◌*◌, ◌≤◌}
use native.Mathlib.Nat.{mul-le-mul}
use native.Mathlib.Omega.{arith}
use lib.ListN.{length}
use Rattle.notification_kinds.proofs.KindLaws.{too-many-days, too-many-slots, lent-decide}
use Rattle.notification_kinds.proofs.tables_fit.Goals as goal
use Rattle.notification_kinds.proofs.tables_fit.Goals.{Else-slots-gt-MOST_SLOTS}

few : (c : Else-slots-gt-MOST_SLOTS) → let v = c.args.view in length v.held.now * v.book.setup.days ≤ 256 * 8
few c = mul-le-mul c.if-slots-gt-MOST_SLOTS.false c.if-days-gt-MOST_DAYS.false

pub returns-then-days-gt-MOST_DAYS : goal.returns-then-days-gt-MOST_DAYS
returns-then-days-gt-MOST_DAYS c =
    let v = c.args.view in
    sym (too-many-days v.book (length v.held.now) (length v.side1.now) (length v.side2.now) c.if-days-gt-MOST_DAYS.true)

pub returns-then-slots-gt-MOST_SLOTS : goal.returns-then-slots-gt-MOST_SLOTS
returns-then-slots-gt-MOST_SLOTS c =
    let v = c.args.view in
    sym (too-many-slots v.book (length v.held.now) (length v.side1.now) (length v.side2.now) c.if-slots-gt-MOST_SLOTS.true)

pub overflow_mul-all : goal.overflow_mul-all
overflow_mul-all c = omega (arith, few (goal.at.overflow_mul-all c).Else-slots-gt-MOST_SLOTS)

pub overflow_mul-all-2 : goal.overflow_mul-all-2
overflow_mul-all-2 c = omega (arith, few (goal.at.overflow_mul-all-2 c).Else-slots-gt-MOST_SLOTS)

pub returns : goal.returns
returns c =
    let v = c.args.view in
    sym (lent-decide v.book (length v.held.now) (length v.side1.now) (length v.side2.now) c.if-days-gt-MOST_DAYS.false c.if-slots-gt-MOST_SLOTS.false)
