-- The machine compares bits; equal bits are equal volumes.
use Rattle.std.proofs.Common.{◌≡◌, ◌&&◌, eqb, ap, ◌∙◌, to_z-of_z, w32, of_z}
use Rattle.words.specs.Tests.{sameℤ}
use Rattle.laws.proofs.Machine.{eqb-32}
use Rattle.meaning.specs.Ledgers.{contracts, stands}
use Rattle.meaning.specs.Totals.{matches}
use Rattle.figures.proofs.is_matched.Goals as goal

pub returns : goal.returns
unfolding matches
returns c =
    let v : c.states.result ≡ stands contracts c.args.v = c.states.ensures ∙ ap (stands contracts) (to_z-of_z {w = w32} c.ranges.v) in
    let w : c.states-2.result ≡ stands contracts c.args.w = c.states-2.ensures ∙ ap (stands contracts) (to_z-of_z {w = w32} c.ranges.w) in
    let same : eqb (of_z w32 c.args.v) (of_z w32 c.args.w) ≡ sameℤ c.args.v c.args.w = eqb-32 c.args.v c.args.w c.ranges.v c.ranges.w in
    λ i. v i && w i && same i
