-- Fields and zero bits packed into whole bytes, over any layout: they read back, what stands behind stays, and bytes that are read are packed again.
use mathlib.Core.Bool.{true}
use mathlib.Core.List.{List, [], ◌∷◌, ◌++◌}
use mathlib.Core.Path.{◌≡◌}
use Prim.Native.Nat.{ℕ, ◌≤◌}
use lib.ListN.{length, take, drop}
use Rattle.words.specs.Fields.{field_at, total, read_all, fit, bytes_for, padding}
use Rattle.laws.proofs.Bits.{Bytes}
use Rattle.laws.proofs.Layouts.{write_bytes, write-length}
use Rattle.laws.proofs.Padded.{padded, padded-behind, padded-same, padded-values, padded-zero}
use Rattle.meaning.specs.PackedMessages.{packed_into}

module _ (out ws vs : List ℕ) where
  pub packed-length : length (packed_into out ws vs) ≡ length out
  unfolding packed_into
  packed-length = write-length out 0 (padded ws) (vs ++ (0 ∷ []))

  pub packed-bytes : Bytes out → Bytes (packed_into out ws vs)
  unfolding packed_into
  packed-bytes b = write_bytes out 0 (padded ws) (vs ++ (0 ∷ [])) b

  pub packed-behind : drop (bytes_for ws) (packed_into out ws vs) ≡ drop (bytes_for ws) out
  unfolding packed_into
  packed-behind = padded-behind out ws (vs ++ (0 ∷ []))

  pub packed-values : fit ws vs ≡ true → bytes_for ws ≤ length out → read_all (packed_into out ws vs) 0 ws ≡ vs
  unfolding packed_into
  packed-values f room = padded-values out ws vs f room

  pub packed_zero : fit ws vs ≡ true → bytes_for ws ≤ length out → field_at (packed_into out ws vs) (total ws) (padding ws) ≡ 0
  unfolding packed_into
  packed_zero f room = padded-zero out ws vs f room

pub packed-same : (s out ws : List ℕ) → Bytes s → Bytes out → bytes_for ws ≤ length s → bytes_for ws ≤ length out → field_at s (total ws) (padding ws) ≡ 0
    → packed_into out ws (read_all s 0 ws) ≡ take (bytes_for ws) s ++ drop (bytes_for ws) out
unfolding packed_into
packed-same s out ws bs bo hs ho z = padded-same s out ws bs bo hs ho z
