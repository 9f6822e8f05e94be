-- A byte that is a digit; and kWh below zero.
use mathlib.Core.Bool.{true}
use mathlib.Core.Path.{◌≡◌}
use Prim.Native.Nat.{ℕ, zero, suc, ◌≤◌}
use native.Mathlib.Omega.{arith}
use lib.IntN.{pos, neg_ℤ, ◌-ℤ◌, +ℤ_idl}
use lib.Signed.{mag}
use borrow.Author.Tests.{leb-true}
use Rattle.words.specs.Tests.{◌≤?◌}
use Rattle.laws.proofs.Cases.{and_right}
use Rattle.spreadsheets.specs.Entries.{is_digit}

pub digit-high : (b : ℕ) → is_digit b ≡ true → b ≤ 57
digit-high b e = leb-true b 57 (and_right (48 ≤? b) (b ≤? 57) e)

-- ---- a number of kWh below zero

pub minus_is : (n : ℕ) → pos 0 -ℤ pos n ≡ neg_ℤ (pos n)
minus_is n = +ℤ_idl (neg_ℤ (pos n))

pub minus-mag : (n : ℕ) → mag (neg_ℤ (pos n)) ≤ n
minus-mag zero = omega arith
minus-mag (suc n) = omega arith
