-- The flag says whether no place holds the entry.
use mathlib.Core.Bool.{Bool, true, ◌&&◌}
use mathlib.Core.Path.{◌∙◌}
use Prim.Native.Nat.{ℕ}
use Rattle.std.proofs.Common.{rules, tests}
use Rattle.std.proofs.lemmas.Iterator.{YieldsList-from_slice}
use Rattle.std.proofs.lemmas.Iterator.Consumers.{fold_from_yields_List, YieldsList-from_copied}
use Rattle.ledger_soundness.specs.Parts.{other}
use Rattle.ledger_soundness.proofs.Scans.{scanned}
use Rattle.ledger_soundness.proofs.none_holds.Goals as goal

pub returns : goal.returns
returns c =
    let part = c.args.part.now in
    fold_from_yields_List _ (λ (ok : Bool) (x : ℕ). ok && other c.args.entry x) true c.fold.result c.fold.ensures.ran
    (YieldsList-from_copied (YieldsList-from_slice part cc))
    (λ ok x b q k. search (rules, tests))
    ∙ scanned 0 (other c.args.entry) part
