-- Zero has no line, any other total one.
use Rattle.std.proofs.Common.{pos, refl, arith, to_z-of_z, w64}
use Rattle.laws.proofs.Machine.{bits-same, bits-differ}
use Rattle.sheet_lines.specs.Places.{all_placed, place_after_all}
use Rattle.meaning.specs.Sheet.{period_lines}
use Rattle.sheet_parts.proofs.totals.put_total.Goals as goal

pub returns-then-kwh-eq0 : goal.returns-then-kwh-eq0
unfolding period_lines all_placed place_after_all
returns-then-kwh-eq0 c =
    rw (bits-same w64 c.args.kwh (pos 0) c.ranges.kwh (record { sfits = omega arith }) c.if-kwh-eq0.true) (refl, refl)

pub returns : goal.returns
unfolding period_lines all_placed place_after_all
returns c =
    let line = c.put_total_line.ensures in
    rw (bits-differ w64 c.args.kwh (pos 0) c.if-kwh-eq0.false) (rw (to_z-of_z {w = w64} c.ranges.kwh) at line)
