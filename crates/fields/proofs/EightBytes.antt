-- Eight bytes as the library joins them, the first of them at the top, are a field of 64 bits.
use mathlib.Core.List.{List}
use mathlib.Core.Path.{◌≡◌, refl, ap, ◌∙◌}
use Prim.Native.Nat.{ℕ, ◌+◌, ◌-◌, ◌*◌, ◌<◌}
use native.Mathlib.Omega.{arith}
use lib.ListN.{get_or, take, drop}
use mir.Syntax.{w64}
use Rattle.std.specs.Int.{from_be_bytes}
use Rattle.std.proofs.lemmas.List.{get_or-take, get_or-drop}
use Rattle.words.specs.Fields.{field_at}
use Rattle.laws.proofs.WideFields.{field-byte}

module _ (s : List ℕ) (f : ℕ) (small : (i : ℕ) → get_or s i 0 < 256) where
  none : field_at s (f * 8) 0 ≡ 0
  unfolding field_at
  none = refl

  more : (n : ℕ) → field_at s (f * 8) ((n + 1) * 8) ≡ field_at s (f * 8) (n * 8) * 256 + get_or s (f + n) 0
  more n = field-byte s f n (small (f + n))

  module _ (part : List ℕ) (same : part ≡ take (f + 8 - f) (drop f s)) where
    at : (i : ℕ) → i < 8 → get_or part i 0 ≡ get_or s (f + i) 0
    at i h = ap (λ (l : List ℕ). get_or l i 0) same ∙ get_or-take (f + 8 - f) (drop f s) i 0 (omega arith) ∙ get_or-drop f s i 0

    pub eight-joined : from_be_bytes w64 part ≡ field_at s (f * 8) 64
    eight-joined =
        omega (arith, none, more 0, more 1, more 2, more 3, more 4, more 5, more 6, more 7, at 0 (omega arith), at 1 (omega arith), at 2 (omega arith), at 3 (omega arith), at 4 (omega arith), at 5 (omega arith), at 6 (omega arith), at 7 (omega arith))
