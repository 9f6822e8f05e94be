-- Either test of the reference is the definition's.
use borrow.Author.Tests.{lt-ltb, le-ltb}
use native.Mathlib.Omega.{arith}
use Rattle.viewer.proofs.asked.originator_named.Goals as goal

pub returns-then-reference-gt65535 : goal.returns-then-reference-gt65535
returns-then-reference-gt65535 c = rw (le-ltb c.args.reference 65536 (omega arith))

pub returns : goal.returns
returns c = rw (lt-ltb c.args.reference 65536 (omega arith)) c.at_most_255.ensures
