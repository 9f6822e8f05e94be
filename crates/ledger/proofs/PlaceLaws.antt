-- The place of a slot's period: small, and a day's places are one after the other.
use mathlib.Core.Path.{◌≡◌, sym, ap, ◌∙◌}
use Prim.Native.Nat.{ℕ, suc, ◌+◌, ◌*◌, ◌/◌, ◌%◌, ◌≤◌, ◌<◌}
use native.Mathlib.Nat.{div-add-mod', mul-le-mul}
use native.Mathlib.Omega.{arith}
use Rattle.meaning.specs.Ledgers.{index, places, slot_at, day_at, period_at}
use Rattle.meaning.proofs.Places.{index-lt, slot-index, day-index, period-index}

-- as the code computes it
pub place_is : (n slot d p : ℕ) → (slot * n + d) * 50 + p ≡ index n slot d (suc p)
unfolding index
place_is n slot d p = omega arith

-- four bytes name no place above this one
pub product-few : (slot n : ℕ) → slot ≤ 255 → n ≤ 255 → slot * n ≤ 65025
product-few slot n h l = mul-le-mul h l

pub index-few : (n slot d p : ℕ) → slot < 256 → n < 256 → d < 256 → p < 256 → index n slot d (suc p) ≤ 3264255
unfolding index
index-few n slot d p s m h k = omega (arith, product-few slot n (omega arith) (omega arith))

-- the places of a day, by its first
pub first-is : (n slot d : ℕ) → (slot * n + d) * 50 ≡ index n slot d 1
unfolding index
first-is n slot d = omega arith

pub index-next : (n slot d p : ℕ) → index n slot d 1 + p ≡ index n slot d (suc p)
unfolding index
index-next n slot d p = omega arith

-- they lie in the table of so many slots
pub day-within : (n slot d slots : ℕ) → slot < slots → d < n → index n slot d 1 + 50 ≤ places slots n
day-within n slot d slots h hd =
    omega (arith, index-next n slot d 49, index-lt n slot {period = 50} hd (omega arith) (omega arith) h)

module _ (n slot : ℕ) {d p : ℕ} (hd : d < n) (hp : p < 50) where
  pub slot-here : slot_at n (index n slot d 1 + p) ≡ slot
  slot-here = ap (slot_at n) (index-next n slot d p) ∙ slot-index n slot {period = suc p} hd (omega arith) (omega arith)

  pub day-here : day_at n (index n slot d 1 + p) ≡ d
  day-here = ap (day_at n) (index-next n slot d p) ∙ day-index n slot {period = suc p} hd (omega arith) (omega arith)

  pub period-here : period_at (index n slot d 1 + p) ≡ suc p
  period-here = ap period_at (index-next n slot d p) ∙ period-index n slot {period = suc p} hd (omega arith) (omega arith)

-- and no other place is of that day of that slot
pub only_here : (n slot d j : ℕ) → slot_at n j ≡ slot → day_at n j ≡ d → j ≡ index n slot d 1 + j % 50
unfolding slot_at day_at index
only_here n slot d j s w =
    let q : j / 50 ≡ slot * n + d = sym (div-add-mod' (j / 50) n) ∙ rw (s, w) in
    omega (arith, div-add-mod' j 50, q)
