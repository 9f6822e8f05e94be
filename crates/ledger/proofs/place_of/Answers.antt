-- The product as the paper's index.
use Rattle.ledger.proofs.PlaceLaws.{place_is}
use Rattle.ledger.proofs.place_of.Goals as goal

pub returns : goal.returns
returns c = place_is c.args.days c.args.slot c.args.d c.args.p
