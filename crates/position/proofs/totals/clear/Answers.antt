-- The part before the place is filled, and what lies past it stays.
use mathlib.Core.Path.{◌≡◌, ap, ◌∙◌}
use mathlib.Core.List.{List, ◌++◌}
use lib.IntN.{ℤ, pos}
use lib.ListN.{replicate, drop}
use borrow.Author.Rules.{rules}
use Rattle.position.proofs.DayLaws.{front-filled}
use Rattle.position.proofs.totals.clear.Goals as goal

pub returns : goal.returns
returns c =
    let a = c.args in
    let filled : c.fill.new.self ≡ replicate a.periods (pos 0) = search rules in
    ap (λ (l : List ℤ). l ++ drop a.periods a.out.now) filled ∙ front-filled a.periods (pos 0) a.out.now c.requires
