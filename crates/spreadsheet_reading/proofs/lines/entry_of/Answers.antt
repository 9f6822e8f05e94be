-- The size is below a hundred million, so it fits with either sign.
use mathlib.Core.Path.{◌≡◌, ap}
use Prim.Native.Nat.{ℕ, ◌-◌, ◌*◌, ◌^◌, ◌<◌}
use native.Mathlib.Omega.{arith}
use lib.IntN.{pos, neg_ℤ}
use mir.Syntax.{w32}
use mir.ValLaws.{to_z_pos, to_z-of_z}
use Rattle.spreadsheets.specs.Entries.{kwh}
use Rattle.spreadsheet_reading.specs.Feeding.{entry_from}
use Rattle.spreadsheet_reading.proofs.Digits.{minus_is, minus-mag}
use Rattle.spreadsheet_reading.proofs.lines.entry_of.Goals as goal
use Rattle.spreadsheet_reading.proofs.lines.entry_of.Goals.{After-scale}

module _ (c : After-scale) where
  abbrev size : ℕ
  size = c.args.line.size * c.scale.result

  is : size ≡ c.args.line.size * 10 ^ (3 - c.args.line.decimals)
  is = ap (λ (k : ℕ). c.args.line.size * k) c.scale.ensures

  small : size < 100000000
  small = omega (arith, is, c.requires.size-range)

pub overflow_mul-size : goal.overflow_mul-size
overflow_mul-size c = record { fits = omega (arith, small (goal.at.overflow_mul-size c).After-scale) }

pub overflow_cast-size : goal.overflow_cast-size
overflow_cast-size c = record { sfits = omega (arith, small (goal.at.overflow_cast-size c).After-scale) }

pub overflow_sub-result : goal.overflow_sub-result
overflow_sub-result c =
    let n = size (goal.at.overflow_sub-result c).After-scale in
    rw (to_z_pos w32 n (omega (arith, small (goal.at.overflow_sub-result c).After-scale)), minus_is n) (record { sfits = omega (arith, small (goal.at.overflow_sub-result c).After-scale, minus-mag n) })

pub returns-then-line : goal.returns-then-line
unfolding entry_from kwh
returns-then-line c =
    let n = size (goal.at.returns-then-line c).After-scale in
    rw (
      to_z_pos w32 n (omega (arith, small (goal.at.returns-then-line c).After-scale)),
      minus_is n,
      to_z-of_z w32 (neg_ℤ (pos n)) (record { sfits = omega (arith, small (goal.at.returns-then-line c).After-scale, minus-mag n) }),
      c.if-line.true,
      is (goal.at.returns-then-line c).After-scale,
    )

pub returns-else-line : goal.returns-else-line
unfolding entry_from kwh
returns-else-line c =
    rw (to_z_pos w32 (size (goal.at.returns-else-line c).After-scale) (omega (arith, small (goal.at.returns-else-line c).After-scale)), c.if-line.false, is (goal.at.returns-else-line c).After-scale)
