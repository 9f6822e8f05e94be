-- Each arm is one case of the definition.
use mathlib.Core.Logic.{◌≢◌}
use mathlib.Core.Path.{◌∙◌}
use native.Mathlib.Omega.{arith}
use borrow.Author.Tests.{ne_eqb}
use Rattle.message_writing.specs.Writing.{message_fits}
use Rattle.message_writing.proofs.message_fits.Goals as goal

pub returns-in-0 : goal.returns-in-0
unfolding message_fits
returns-in-0 c = rw c.in-0.is

pub returns-in-1 : goal.returns-in-1
unfolding message_fits
returns-in-1 c = c.notification_fits.ensures ∙ rw c.in-1.is

pub returns-in-2 : goal.returns-in-2
unfolding message_fits
returns-in-2 c = c.nullification_fits.ensures ∙ rw c.in-2.is

pub returns-in_default : goal.returns-in_default
unfolding message_fits
returns-in_default c =
    let kind = c.args.m.kind in
    let zero : kind ≢ 0 = omega arith in
    let one : kind ≢ 1 = omega arith in
    let two : kind ≢ 2 = omega arith in
    rw (ne_eqb kind 0 zero, ne_eqb kind 1 one, ne_eqb kind 2 two)
