-- Eight fields, read by their widths from where the row stands.
use mathlib.Core.List.{List}
use mathlib.Core.Path.{◌≡◌, ap, ◌∙◌}
use Prim.Native.Nat.{ℕ, ◌^◌, ◌<◌}
use native.Mathlib.Omega.{arith}
use lib.ListN.{get_or}
use Rattle.words.specs.Fields.{total, read_all}
use Rattle.laws.proofs.Layouts.{fit_at, read-fit}
use Rattle.meaning.specs.PackedSetups.{row_layout, setup_layout_for}
use Rattle.fields.specs.Narrow.{read_into}
use Rattle.setups.specs.declared.Authorisation.{Authorisation}
use Rattle.setup_reading.specs.Parts.{row_in}
use Rattle.setup_reading.proofs.row_in.Goals as goal
use Rattle.setup_reading.proofs.row_in.Goals.{After-read_fields, Start}

abbrev from_values : List ℕ → Authorisation
from_values vs =
    let v : ℕ → ℕ = λ j. get_or vs j 0 in
    record { agent1 = v 0; agent2 = v 1; account1 = v 2; account2 = v 3; key = v 4; first = v 5; last = v 6; amendment = v 7 }

module _ (c : After-read_fields) where
  abbrev start : Start
  start = (goal.at.After-read_fields c).Start

  abbrev row : List ℕ
  row = read_all start.args.bytes.now (total (setup_layout_for start.args.days start.args.k)) row_layout

  values : c.read_fields.new.out ≡ row
  unfolding read_into
  values =
      c.read_fields.ensures
      ∙ ap (λ (p : ℕ). read_all start.args.bytes.now p row_layout) c.bits_for.ensures

  -- each value fits its field's width
  fits : (i : ℕ) → i < 8 → get_or c.read_fields.new.out i 0 < 2 ^ get_or row_layout i 0
  fits i h = rw values (fit_at row_layout row (read-fit start.args.bytes.now (total (setup_layout_for start.args.days start.args.k)) row_layout) i h)

pub overflow_cast-result : goal.overflow_cast-result
overflow_cast-result c = omega (arith, fits (goal.at.overflow_cast-result c).After-read_fields 0 (omega arith))

pub overflow_cast-result-2 : goal.overflow_cast-result-2
overflow_cast-result-2 c = omega (arith, fits (goal.at.overflow_cast-result-2 c).After-read_fields 1 (omega arith))

pub overflow_cast-result-3 : goal.overflow_cast-result-3
overflow_cast-result-3 c = omega (arith, fits (goal.at.overflow_cast-result-3 c).After-read_fields 2 (omega arith))

pub overflow_cast-result-4 : goal.overflow_cast-result-4
overflow_cast-result-4 c = omega (arith, fits (goal.at.overflow_cast-result-4 c).After-read_fields 3 (omega arith))

pub overflow_cast-result-5 : goal.overflow_cast-result-5
overflow_cast-result-5 c = omega (arith, fits (goal.at.overflow_cast-result-5 c).After-read_fields 4 (omega arith))

pub overflow_cast-result-6 : goal.overflow_cast-result-6
overflow_cast-result-6 c = omega (arith, fits (goal.at.overflow_cast-result-6 c).After-read_fields 5 (omega arith))

pub overflow_cast-result-7 : goal.overflow_cast-result-7
overflow_cast-result-7 c = omega (arith, fits (goal.at.overflow_cast-result-7 c).After-read_fields 6 (omega arith))

pub overflow_cast-result-8 : goal.overflow_cast-result-8
overflow_cast-result-8 c = omega (arith, fits (goal.at.overflow_cast-result-8 c).After-read_fields 7 (omega arith))

pub returns : goal.returns
unfolding row_in
returns c = ap from_values (values (goal.at.returns c).After-read_fields)
