-- The difference is made of the whole numbers, and each is converted once.
use mir.Facts.{to_z-of_z}
use mir.Syntax.{w64}
use Rattle.position.specs.Counting.{figures_for}
use Rattle.position.proofs.FigureLaws.{net-fits}
use Rattle.position.proofs.day_figures.day_figures.Goals as goal

pub returns : goal.returns
unfolding figures_for
returns c =
    let a = c.args in
    rw (c.mwh.ensures, c.mwh-2.ensures, c.mwh-3.ensures, to_z-of_z {w = w64} c.ranges.sold, to_z-of_z {w = w64} c.ranges.bought, to_z-of_z {w = w64} (net-fits a.sold a.bought c.requires.0 c.requires.1))
