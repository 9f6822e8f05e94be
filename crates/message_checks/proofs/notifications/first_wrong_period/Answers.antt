-- No period that was passed is wrong, and `before` is the last of them; the first that is wrong ends the search, and so do 50 entries.
use mathlib.Core.Bool.{true, false, not}
use mathlib.Core.Path.{◌≡◌, ap, refl, ◌∙◌}
use native.Mathlib.Numerals.{add-one}
use native.Mathlib.Omega.{arith}
use Rattle.laws.proofs.Below.{some-none, some_more}
use Rattle.book.specs.Structs.{setting_in}
use Rattle.message_checks.proofs.CheckLaws.{wrong_period, period_of, period-found, periods-ended}
use Rattle.message_checks.proofs.notifications.first_wrong_period.Goals as goal

pub loop-k-init : goal.loop-k-init
loop-k-init c = (refl, some-none _)

pub returns-then-not-before-period : goal.returns-then-not-before-period
returns-then-not-before-period c =
    let n = c.args.n in
    let l = c.loop-k in
    let wrong : wrong_period c.highest_period-highest.result (period_of n) l.k ≡ true = rw (← l.invariant.0) (ap not c.if-not-before-period.true) in
    period-found (setting_in c.args.b) n c.highest_period-highest.ensures l.k (omega (arith, c.entries_inside-count.ensures)) l.invariant.1 (omega (arith, c.entries_inside-count.ensures)) wrong

pub loop-k-preserved : goal.loop-k-preserved
loop-k-preserved c =
    let n = c.args.n in
    let l = c.loop-k in
    let h = c.highest_period-highest.result in
    let right : wrong_period h (period_of n) l.k ≡ false = rw (← l.invariant.0) (ap not c.if-not-before-period.false) in
    (rw add-one, some_more l.k (wrong_period h (period_of n)) ∙ rw (l.invariant.1, right))

pub returns : goal.returns
returns c =
    let n = c.args.n in
    let l = c.loop-k in
    let ended : c.entries_inside-count.result ≡ l.k = omega arith in
    ended ∙ periods-ended (setting_in c.args.b) n c.highest_period-highest.ensures l.k (omega (arith, c.entries_inside-count.ensures)) l.invariant.1 (omega (arith, c.entries_inside-count.ensures))
