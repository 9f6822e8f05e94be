-- The bits of a setup of so many days and rows.
use mathlib.Core.List.{[], ◌∷◌}
use mathlib.Core.Path.{◌≡◌}
use Prim.Native.Nat.{ℕ, ◌+◌, ◌*◌}
use native.Mathlib.Omega.{arith}
use Rattle.words.specs.Fields.{total, times}
use Rattle.laws.proofs.Layouts.{times-total, total-append}
use Rattle.meaning.specs.PackedSetups.{row_layout, setup_layout_for}

pub bits-setup : (days rows : ℕ) → total (setup_layout_for days rows) ≡ 34 + 2 * days + 78 * rows
unfolding setup_layout_for
bits-setup days rows =
    omega (arith, total-append (times days (2 ∷ [])) (times rows row_layout), times-total days (2 ∷ []), times-total rows row_layout)
