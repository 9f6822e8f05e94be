-- The originator is the identifier's own. Where it is the authorisation itself it is right; of another one the tests are as they stand.
use borrow.Author.Tests.{eq-eqb}
use mathlib.Core.Bool.{not}
use mathlib.Core.Path.{ap}
use Rattle.meaning.specs.Notifications.{originator_right}
use Rattle.meaning.proofs.MessageValues.{originator-again}
use Rattle.messages.specs.Structs.{notification_of}
use Rattle.message_checks.proofs.CheckLaws.{reference-fits, originator-test}
use Rattle.message_checks.proofs.notifications.originator_wrong.Goals as goal

pub returns-then-n : goal.returns-then-n
unfolding originator_right notification_of
returns-then-n c =
    let n = c.args.n in
    rw (originator-again n.originator n.reference (reference-fits n c.well_formed.1.0), eq-eqb n.originator n.authorisation c.if-n.true)

pub returns : goal.returns
returns c =
    let n = c.args.n in
    ap not (originator-test c.args.b n c.requires.1 c.row_of-o.ensures c.requires.0 (reference-fits n c.well_formed.1.0) c.if-n.false)
