-- The nearest float, divided by the literal 1000.0.
use Rattle.std.proofs.Common.{ap, ◌∙◌, ap₂, to_z-of_z, w64}
use lib.Ieee.{binary64, of_int, div}
use Rattle.meaning.specs.Totals.{mwh}
use Rattle.figures.proofs.MwhLaws.{thousand-bits}
use Rattle.figures.proofs.mwh.Goals as goal

pub returns : goal.returns
unfolding mwh
returns c = ap₂ (div binary64) (c.nearest_i64_to_f64.ensures ∙ ap (of_int binary64) (to_z-of_z {w = w64} c.ranges.kwh)) thousand-bits
