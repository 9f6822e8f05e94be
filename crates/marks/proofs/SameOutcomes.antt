-- Two outcomes of which the same is told are the same.
use mathlib.Core.Path.{◌≡◌, refl}
use Rattle.std.specs.Prelude.{Result}
use Rattle.limits.specs.declared.refusals.Refusal.{Refusal}
use Rattle.limits.proofs.Told.{told}
use Rattle.bar.specs.declared.Bar.{Bar}
use Rattle.marks.specs.declared.RowPart.{RowPart}
use Rattle.marks.specs.declared.RowPlace.{RowPlace}
use Rattle.marks.specs.Marks.{Marked, marked_of}
use Rattle.marks.specs.Rows.{row_placed}

pub same_mark : (r s : Result Bar Refusal) → marked_of r ≡ marked_of s → r ≡ s
same_mark = told marked_of (λ (m : Marked). m.answer) (λ (m : Marked). m.bar) (λ _. refl) (λ _. refl) (λ _. refl)

pub same_part : (r s : Result RowPart Refusal) → row_placed r ≡ row_placed s → r ≡ s
same_part = told row_placed (λ (p : RowPlace). p.answer) (λ (p : RowPlace). record { start = p.start; length = p.length }) (λ _. refl) (λ _. refl) (λ _. refl)
