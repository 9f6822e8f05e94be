-- Figures in MWh: kWh become a float exactly; what is negated as whole kWh is negated as a figure, except that zero stays positive zero; and no figure
-- is negative zero.
use Rattle.std.proofs.Common.{◌≡◌, ℕ, zero, suc, ◌+◌, ◌-◌, ◌*◌, ◌/◌, ◌%◌, ◌^◌, ◌≤◌, Bool, true, false, not, T, ltb, ◌≢◌, ℤ, pos, negsuc, neg_ℤ, nat_abs, sym, refl, ap, ◌∙◌, subst, true≢false, arith, le→leb, lt→ltb}
use Prim.Native.Nat.{compare}
use lib.Count.{count_trailing_zeros}
use lib.Ieee.{Float, nan, inf, fin, Format, binary64, prec, low, emax, nearest, up, down, odd, units, round, size, span, climb, neg, div, of_int, le, in_float, to_signed, of_bits, of_fields}
use lib.Ieee.Back.{positive_back, negative_back}
use lib.Ieee.Fits.{down_pos}
use lib.Ieee.Order.{round_mono}
use lib.Ieee.Positive.{positive, above, le→cross, above_of_le}
use Rattle.laws.proofs.Cases.{on}
use Rattle.meaning.specs.Totals.{mwh}
use Rattle.meaning.proofs.Figures.{zero-positive}

-- ---- exactness

abbrev thousand : Float
thousand = fin false 125 (pos 3)

-- the literal 1000.0 of the code
pub thousand-bits : of_bits binary64 0x408f400000000000 ≡ thousand
unfolding of_bits of_fields odd count_trailing_zeros
thousand-bits = refl

-- up to 2 ^ 53 either way the float is the whole number itself, and gives it back
pub converted-exactly : (kwh : ℤ) → nat_abs kwh ≤ 2 ^ 53 → to_signed 63 (of_int binary64 kwh) ≡ kwh
unfolding in_float
converted-exactly (pos n) h = (positive_back binary64 63 n (le→leb n (2 ^ 53) h) (omega arith)).1
converted-exactly (negsuc n) h = (negative_back binary64 63 n (lt→ltb n (2 ^ 53) h) (omega arith)).1

-- ---- negation

neg-neg : (x : Float) → neg (neg x) ≡ x
unfolding neg
neg-neg nan = refl
neg-neg (inf true) = refl
neg-neg (inf false) = refl
neg-neg (fin true m e) = refl
neg-neg (fin false m e) = refl

-- a rounded number has its sign apart
odd-neg : (d : ℕ) (s : Bool) (q k l : ℕ) → odd d (not s) q k l ≡ neg (odd d s q k l)
unfolding odd neg
odd-neg d s zero k l = refl
odd-neg d s (suc q) k l = refl

units-neg : (f : Format) (s : Bool) (q k : ℕ) → units f (not s) q k ≡ neg (units f s q k)
unfolding units neg
units-neg f s q k =
    on (ltb (q * 2 ^ k) (2 ^ (low f + suc (emax f))))
    (λ e. rw e (odd-neg (suc (prec f)) s q k (low f)))
    (λ e. rw e)

round-neg : (f : Format) (s : Bool) (a c : ℕ) → round f (not s) a c ≡ neg (round f s a c)
unfolding round
round-neg f s a c =
    let n = a * 2 ^ low f in
    let k = size (n / c) - prec f in
    let u = c * 2 ^ k in
    units-neg f s (nearest (n / u) (compare (n % u * 2) u)) k

div-neg : (x : Float) → div binary64 (neg x) thousand ≡ neg (div binary64 x thousand)
unfolding div neg
div-neg nan = refl
div-neg (inf true) = refl
div-neg (inf false) = refl
div-neg (fin true m e) = round-neg binary64 true (m * up e * down (pos 3)) (125 * up (pos 3) * down e)
div-neg (fin false m e) = round-neg binary64 false (m * up e * down (pos 3)) (125 * up (pos 3) * down e)

below-zero : (n : ℕ) → mwh (negsuc n) ≡ neg (mwh (pos (suc n)))
unfolding mwh of_int
below-zero n = ap (λ (x : Float). div binary64 x thousand) (round-neg binary64 false (suc n) 1) ∙ div-neg (round binary64 false (suc n) 1)

-- kWh negated are MWh negated
pub mwh-negated : (kwh : ℤ) → kwh ≢ pos 0 → mwh (neg_ℤ kwh) ≡ neg (mwh kwh)
mwh-negated (pos zero) n = absurd (n refl)
mwh-negated (pos (suc n)) m = below-zero n
mwh-negated (negsuc n) m = sym (ap neg (below-zero n) ∙ neg-neg (mwh (pos (suc n))))

-- ---- above zero

one-kwh : round binary64 false 1 1 ≡ fin false 1 (pos 0)
unfolding round size span climb units odd count_trailing_zeros
one-kwh = refl

-- a thousandth does not round to zero
thousandth : T (positive (round binary64 false 1 1000))
unfolding round size span climb units odd count_trailing_zeros
thousandth = tt

scaled : (p q : ℕ) → q ≤ p → 1 * (125 * 8 * q) ≤ p * 1 * 1000
scaled p q h = omega arith

-- what is 1 or more, divided by 1000, is above zero
divided : (x : Float) → T (le (fin false 1 (pos 0)) x) → T (above (div binary64 x thousand))
unfolding div
divided nan h = absurd (above_of_le (fin false 1 (pos 0)) nan tt h)
divided (inf true) h = absurd (above_of_le (fin false 1 (pos 0)) (inf true) tt h)
divided (inf false) h = tt
divided (fin true m e) h = absurd (above_of_le (fin false 1 (pos 0)) (fin true m e) tt h)
divided (fin false m e) h =
    let some = above_of_le (fin false 1 (pos 0)) (fin false m e) tt h in
    let least : down e ≤ m * up e = omega (arith, le→cross (fin false 1 (pos 0)) (fin false m e) tt some h) in
    above_of_le (round binary64 false 1 1000) (round binary64 false (m * up e * 1) (125 * 8 * down e)) thousandth
    (round_mono binary64 1 1000 (m * up e * 1) (125 * 8 * down e) (omega arith) (omega (arith, down_pos e)) (scaled (m * up e) (down e) least))

pub above_zero : (n : ℕ) → T (above (mwh (pos (suc n))))
unfolding mwh of_int
above_zero n =
    divided (round binary64 false (suc n) 1)
    (subst (λ (x : Float). T (le x (round binary64 false (suc n) 1))) one-kwh
    (round_mono binary64 1 1 (suc n) 1 (omega arith) (omega arith) (omega arith)))

-- only zero kWh are zero MWh
pub some-not-zero : (kwh : ℤ) → kwh ≢ pos 0 → mwh kwh ≢ fin false 0 (pos 0)
unfolding neg
some-not-zero (pos zero) n q = n refl
some-not-zero (pos (suc n)) m q = subst (λ (x : Float). T (above x)) q (above_zero n)
some-not-zero (negsuc n) m q =
    subst (λ (x : Float). T (above x)) (sym (neg-neg (mwh (pos (suc n)))) ∙ ap neg (sym (below-zero n) ∙ q)) (above_zero n)

abbrev negative : Float → Bool
negative nan = false
negative (inf s) = s
negative (fin s m d) = s

pub zero-not-negative : (e : ℤ) → fin false 0 (pos 0) ≢ fin true 0 e
zero-not-negative e q = true≢false (ap negative (sym q))

-- "Zero is positive zero"
pub no-negative-zero : (kwh e : ℤ) → mwh kwh ≢ fin true 0 e
unfolding neg
no-negative-zero (pos zero) e q = zero-not-negative e (sym zero-positive ∙ q)
no-negative-zero (pos (suc n)) e q = subst (λ (x : Float). T (above x)) q (above_zero n)
no-negative-zero (negsuc n) e q =
    subst (λ (x : Float). T (above x)) (sym (neg-neg (mwh (pos (suc n)))) ∙ ap neg (sym (below-zero n) ∙ q)) (above_zero n)
