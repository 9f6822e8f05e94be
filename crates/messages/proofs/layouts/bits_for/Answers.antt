-- Each arm is one layout.
use mathlib.Core.Path.{sym}
use native.Mathlib.Omega.{arith}
use Rattle.messages.proofs.LayoutSizes.{bits-notification, bits-nullification, bits-other}
use Rattle.messages.proofs.layouts.bits_for.Goals as goal

pub returns-in-1 : goal.returns-in-1
returns-in-1 c = omega (arith, bits-notification c.args.kind c.args.count c.in-1.is)

pub returns-in-2 : goal.returns-in-2
returns-in-2 c = sym (bits-nullification c.args.kind c.args.count c.in-2.is)

pub returns-in_default : goal.returns-in_default
returns-in_default c = sym (bits-other c.args.kind c.args.count (omega arith) (omega arith))
