-- The head is four fields, read by their widths; its counts say which codes and rows are read.
use mathlib.Core.List.{List}
use mathlib.Core.Path.{◌≡◌, ap}
use Prim.Native.Nat.{ℕ, ◌^◌, ◌<◌}
use native.Mathlib.Omega.{arith}
use lib.ListN.{get_or}
use Rattle.words.specs.Fields.{read_all}
use Rattle.laws.proofs.Layouts.{fit_at, read-fit}
use Rattle.meaning.specs.PackedSetups.{head_layout}
use Rattle.fields.specs.Narrow.{read_into}
use Rattle.setups.specs.declared.Setup.{Setup}
use Rattle.setup_reading.specs.Parts.{codes_in, rows_in, setup_struct_in}
use Rattle.setup_reading.proofs.setup_in.Goals as goal
use Rattle.setup_reading.proofs.setup_in.Goals.{After-read_fields}

abbrev from_values : List ℕ → List ℕ → Setup
from_values s vs =
    let v : ℕ → ℕ = λ j. get_or vs j 0 in
    record { first = v 0; days = v 1; accounts = v 2; authorisations = v 3; codes = codes_in s (v 1); rows = rows_in s (v 1) (v 3) }

module _ (c : After-read_fields) where
  abbrev bytes : List ℕ
  bytes = c.args.bytes.now

  abbrev head : List ℕ
  head = read_all bytes 0 head_layout

  values : c.read_fields.new.out ≡ head
  unfolding read_into
  values = c.read_fields.ensures

  -- each value fits its field's width
  fits : (i : ℕ) → i < 4 → get_or c.read_fields.new.out i 0 < 2 ^ get_or head_layout i 0
  fits i h = rw values (fit_at head_layout head (read-fit bytes 0 head_layout) i h)

pub overflow_cast-days : goal.overflow_cast-days
overflow_cast-days c = omega (arith, fits (goal.at.overflow_cast-days c).After-read_fields 1 (omega arith))

pub overflow_cast-authorisations : goal.overflow_cast-authorisations
overflow_cast-authorisations c = omega (arith, fits (goal.at.overflow_cast-authorisations c).After-read_fields 3 (omega arith))

pub overflow_cast-result : goal.overflow_cast-result
overflow_cast-result c = omega (arith, fits (goal.at.overflow_cast-result c).After-read_fields 0 (omega arith))

pub overflow_cast-result-2 : goal.overflow_cast-result-2
overflow_cast-result-2 c = omega (arith, fits (goal.at.overflow_cast-result-2 c).After-read_fields 2 (omega arith))

pub returns : goal.returns
unfolding setup_struct_in
returns c = rw (c.codes_in-codes.ensures, c.rows_in-rows.ensures) (ap (from_values (bytes (goal.at.returns c).After-read_fields)) (values (goal.at.returns c).After-read_fields))
