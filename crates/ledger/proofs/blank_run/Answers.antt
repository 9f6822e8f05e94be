-- The part is cut off at the table's end, and what is not stored there changes nothing.
use native.Mathlib.Omega.{arith}
use mathlib.Core.Path.{◌≡◌}
use Prim.Native.Nat.{◌+◌, ◌-◌}
use lib.ListN.{replicate}
use borrow.Author.Rules.{rules}
use Rattle.laws.proofs.PartStores.{clipped-fill}
use Rattle.meaning.specs.Ledgers.{the_mark}
use Rattle.ledger.proofs.blank_run.Goals as goal

pub returns : goal.returns
returns c =
    let a = c.args in
    let from = c.min-from.result in
    let n = c.inside-n.result in
    let filled : c.fill.new.self ≡ replicate n the_mark = search rules in
    clipped-fill a.side.now a.at from n (from + n - from) a.count the_mark c.fill.new.self c.min-from.ensures c.inside-n.ensures (omega arith) filled
