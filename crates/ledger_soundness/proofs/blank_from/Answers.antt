-- The flag says whether every place from there on is blank.
use mathlib.Core.Bool.{Bool, true, ◌&&◌, ◌||◌}
use mathlib.Core.Path.{◌∙◌}
use Prim.Native.Nat.{ℕ}
use lib.IntN.{ℤ}
use Rattle.std.proofs.Common.{rules, tests}
use Rattle.std.proofs.lemmas.Iterator.{YieldsList-from_slice}
use Rattle.std.proofs.lemmas.Iterator.Consumers.{fold_from_yields_List, YieldsList-from_copied, YieldsList-from_enumerate}
use Rattle.words.specs.Tests.{◌<?◌}
use Rattle.meaning.specs.Ledgers.{the_mark}
use Rattle.ledger_soundness.specs.Parts.{blank}
use Rattle.ledger_soundness.proofs.Scans.{scanned-at, blank-bits}
use Rattle.ledger_soundness.proofs.blank_from.Goals as goal

pub returns : goal.returns
returns c =
    let a = c.args in
    let part = a.part.now in
    fold_from_yields_List _ (λ (ok : Bool) (e : ℕ × ℤ). ok && (e.0 <? a.from || blank e.1)) true c.fold.result c.fold.ensures.ran
    (YieldsList-from_enumerate (YieldsList-from_copied (YieldsList-from_slice part cc)) cc)
    (λ ok e b q k. search (rules, tests, blank-bits))
    ∙ scanned-at the_mark (λ (k : ℕ) (x : ℤ). k <? a.from || blank x) part
