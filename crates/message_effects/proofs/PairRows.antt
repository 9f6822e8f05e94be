-- The pair of a slot's entry.
use mathlib.Core.Bool.{false}
use mathlib.Core.List.{List}
use mathlib.Core.Logic.{◌≢◌}
use mathlib.Core.Path.{◌≡◌, refl}
use Prim.Native.Nat.{ℕ, zero, suc, ◌-◌}
use native.Mathlib.Omega.{arith}
use Rattle.meaning.specs.Authorisations as Meaning
use Rattle.meaning.specs.Ledgers.{originator_of}
use Rattle.message_effects.specs.Effects.{pair_in}

-- an unheld slot has no pair; a held one that of its originator
module _ (rows : List Meaning.Authorisation) (account other : ℕ) where
  pub pair-unheld : (entry : ℕ) → entry ≡ 0 → pair_in rows account other entry ≡ false
  unfolding pair_in
  pair-unheld entry e = rw e

  pub pair_held : (entry : ℕ) {k : ℕ} → entry ≢ 0 → k ≡ originator_of (entry - 1) → pair_in rows account other entry ≡ Meaning.is_pair (Meaning.row_at rows k) account other
  unfolding pair_in
  pair_held zero n q = absurd (n refl)
  pair_held (suc i) n q = let e : suc i - 1 ≡ i = omega arith in rw (q, e)
