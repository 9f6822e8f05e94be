-- How a signed number is written, by its sign.
use Rattle.std.proofs.Common.{◌≡◌, true, false, T, ◌∷◌, ℤ, pos, negsuc, nat_abs, refl, subst, not-suc-le-zero, ltb-true}
use lib.Signed.{lt_z}
use Rattle.meaning.specs.Decimals.{decimal, signed}

pub signed_below : (z : ℤ) → lt_z z (pos 0) ≡ true → signed z ≡ 45 ∷ decimal (nat_abs z)
unfolding signed
signed_below (pos n) e = absurd (not-suc-le-zero (ltb-true n 0 e))
signed_below (negsuc n) e = refl

pub signed-not-below : (z : ℤ) → lt_z z (pos 0) ≡ false → signed z ≡ decimal (nat_abs z)
unfolding signed
signed-not-below (pos n) e = refl
signed-not-below (negsuc n) e = absurd (subst T e tt)
