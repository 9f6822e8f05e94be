-- How a volume is written, by its sign.
use mathlib.Core.Bool.{true, false}
use mathlib.Core.List.{◌++◌}
use mathlib.Core.Path.{◌≡◌, refl, subst}
use native.Mathlib.Nat.{not-suc-le-zero}
use lib.Dec.{T}
use lib.IntN.{ℤ, pos, negsuc, nat_abs}
use lib.Signed.{lt_z}
use borrow.Author.Tests.{ltb-true}
use Rattle.meaning.specs.Ascii.{ascii}
use Rattle.spreadsheets.specs.Writing.{size_text, mwh_text}

pub text-below : (z : ℤ) → lt_z z (pos 0) ≡ true → mwh_text z ≡ ascii "-" ++ size_text (nat_abs z)
unfolding mwh_text
text-below (pos n) e = absurd (not-suc-le-zero (ltb-true n 0 e))
text-below (negsuc n) e = refl

pub text-not-below : (z : ℤ) → lt_z z (pos 0) ≡ false → mwh_text z ≡ size_text (nat_abs z)
unfolding mwh_text
text-not-below (pos n) e = refl
text-not-below (negsuc n) e = absurd (subst T e tt)
