-- The flag says whether every place is right.
use mathlib.Core.Bool.{Bool, true, ◌&&◌}
use mathlib.Core.Path.{◌∙◌}
use lib.IntN.{ℤ}
use Rattle.std.proofs.Common.{rules, tests}
use Rattle.std.proofs.lemmas.Iterator.{YieldsList-from_slice}
use Rattle.std.proofs.lemmas.Iterator.Consumers.{fold_from_yields_List, YieldsList-from_copied}
use Rattle.meaning.specs.Ledgers.{the_mark}
use Rattle.ledger_soundness.specs.Parts.{right}
use Rattle.ledger_soundness.proofs.Scans.{scanned}
use Rattle.ledger_soundness.proofs.all_right.Goals as goal

pub returns : goal.returns
returns c =
    let part = c.args.part.now in
    fold_from_yields_List _ (λ (ok : Bool) (x : ℤ). ok && right x) true c.fold.result c.fold.ensures.ran
    (YieldsList-from_copied (YieldsList-from_slice part cc))
    (λ ok x b q k. search (rules, tests))
    ∙ scanned the_mark right part
