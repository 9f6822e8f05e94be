-- What is in hand once the content of a packed setup has been read: where its padding lies.
use mathlib.Core.Bool.{Bool, not}
use mathlib.Core.List.{List}
use mathlib.Core.Path.{◌≡◌, sym, ap, ◌∙◌}
use Prim.Native.Nat.{ℕ}
use Rattle.words.specs.Tests.{◌=?◌}
use Rattle.words.specs.Fields.{field_at, padding, total}
use Rattle.meaning.specs.PackedSetups.{setup_layout_for, setup_layout_in}
use Rattle.setup_reading.specs.Parts.{setup_struct_in}
use Rattle.setups.specs.declared.Setup.{Setup}
use Rattle.setup_reading.proofs.ReadParts.{layout-same}

abbrev pub padding_in : List ℕ → List ℕ → Bool
padding_in bytes ws = not (field_at bytes (total ws) (padding ws) =? 0)

pub padding-same : (bytes : List ℕ) (slots lent1 lent2 : ℕ) (s : Setup) → s ≡ setup_struct_in bytes
    → {r : Bool} → r ≡ padding_in bytes (setup_layout_for s.days s.authorisations) → padding_in bytes (setup_layout_in bytes) ≡ r
padding-same bytes slots lent1 lent2 s e q = sym (q ∙ ap (padding_in bytes) (layout-same bytes slots lent1 lent2 s e))
