-- The numbers of a mark tell the mark, so what C is given of one tells the whole outcome.
use mathlib.Core.Path.{◌≡◌, refl, ap, ap₂}
use native.Mathlib.Omega.{arith}
use Rattle.std.specs.Prelude.{Result}
use Rattle.limits.specs.declared.refusals.Refusal.{Refusal}
use Rattle.bar.specs.declared.Bar.{Bar}
use Rattle.bar.specs.declared.Bar.TheVariants.{Blank, OneSide, Agreed, Disagreed}
use Rattle.bar.specs.Figures.{case_of, first_of, second_of}
use Rattle.marks.specs.Marks.{marked_of}
use Rattle.marks.proofs.SameOutcomes.{same_mark}
use Rattle.viewer.specs.Numbers.{mark_numbers}
use Rattle.viewer.specs.declared.MarkNumbers.{MarkNumbers}

same-bar : (x y : Bar) → case_of x ≡ case_of y → first_of x ≡ first_of y → second_of x ≡ second_of y → x ≡ y
same-bar Blank Blank e f g = refl
same-bar Blank (OneSide b) e f g = absurd (omega (arith, e))
same-bar Blank (Agreed b) e f g = absurd (omega (arith, e))
same-bar Blank (Disagreed b d) e f g = absurd (omega (arith, e))
same-bar (OneSide a) Blank e f g = absurd (omega (arith, e))
same-bar (OneSide a) (OneSide b) e f g = ap OneSide f
same-bar (OneSide a) (Agreed b) e f g = absurd (omega (arith, e))
same-bar (OneSide a) (Disagreed b d) e f g = absurd (omega (arith, e))
same-bar (Agreed a) Blank e f g = absurd (omega (arith, e))
same-bar (Agreed a) (OneSide b) e f g = absurd (omega (arith, e))
same-bar (Agreed a) (Agreed b) e f g = ap Agreed f
same-bar (Agreed a) (Disagreed b d) e f g = absurd (omega (arith, e))
same-bar (Disagreed a c) Blank e f g = absurd (omega (arith, e))
same-bar (Disagreed a c) (OneSide b) e f g = absurd (omega (arith, e))
same-bar (Disagreed a c) (Agreed b) e f g = absurd (omega (arith, e))
same-bar (Disagreed a c) (Disagreed b d) e f g = ap₂ Disagreed f g

pub mark-told : (r s : Result Bar Refusal) → mark_numbers (marked_of r) ≡ mark_numbers (marked_of s) → r ≡ s
unfolding mark_numbers
mark-told r s e =
    let m = marked_of r in
    let n = marked_of s in
    let bars : m.bar ≡ n.bar = same-bar m.bar n.bar (ap (λ (x : MarkNumbers). x.bar) e) (ap (λ (x : MarkNumbers). x.first) e) (ap (λ (x : MarkNumbers). x.second) e) in
    same_mark r s (ap₂ (λ a b. record { answer = a; bar = b }) (ap (λ (x : MarkNumbers). x.answer) e) bars)
