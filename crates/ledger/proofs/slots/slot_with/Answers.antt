-- The place that `position` gives is the first one of the entry, and the number of slots where it gives none.
use mathlib.Core.Path.{◌≡◌}
use Prim.Native.Nat.{ℕ}
use lib.Dec.{eqb}
use Rattle.std.proofs.Common.{rules, tests}
use Rattle.std.specs.List.{position}
use Rattle.std.proofs.lemmas.Iterator.{YieldsList-from_slice}
use Rattle.std.proofs.lemmas.Iterator.Search.{position_from_yields_List}
use Rattle.laws.proofs.Searches.{position-find}
use Rattle.ledger.proofs.slots.slot_with.Goals as goal

pub returns : goal.returns
returns c =
    let a = c.args in
    let found : c.position.result ≡ position (λ (x : ℕ). eqb x a.entry) a.held.now =
    position_from_yields_List (λ (x : ℕ). eqb x a.entry) _ _ c.position.result c.position.ensures.ran (YieldsList-from_slice a.held.now cc) (λ x b q k. search (rules, tests)) in
    position-find a.entry a.held.now c.position.result c.unwrap_or.result found c.unwrap_or.ensures
