-- A book that a checked setup opened is one that the unchecked way opens too, with the same tables: so all that is proved of a book from its opening on
-- holds of it.
use mathlib.Core.List.{List}
use mathlib.Core.Path.{◌≡◌, sym, ap, ◌∙◌}
use Prim.Native.Nat.{ℕ}
use contract.Lifetimes.{Lfts}
use denote.MutBor.{MutBor}
use denote.Ref.{Bor}
use lib.IntN.{ℤ}
use lib.ListN.{length}
use Rattle.std.specs.Prelude.{Result}
use Rattle.fields.specs.declared.AtFront.{AtFront}
use Rattle.limits.specs.declared.refusals.Refusal.{Refusal}
use Rattle.setups.specs.declared.Setup.{Setup}
use Rattle.book.specs.Answers.{opened, opened_seen, opened_packed, opened_packed_seen}
use Rattle.book.specs.declared.Book.{Book}
use Rattle.book.specs.declared.Opened.{Opened}
use Rattle.book.specs.declared.OpenedPacked.{OpenedPacked}
use Rattle.book.proofs.UniqueState.{Opens}
use Rattle.book.proofs.OpeningLaws.{OpensBy, opens_by}
use Rattle.book.proofs.PackedOpening.{OpensPackedBy, OpensPacked, packed-by}
use Rattle.checked_setups.specs.Checked.{read_checked_setup}
use Rattle.checked_setups.proofs.CheckedLaws.{checked_answer, both-open, same-reading}
use Rattle.checked_setups.proofs.Refused.{checked-reading-answer}
use Rattle.checked_setups.proofs.opening.open_checked.Reads as open-checked
use Rattle.checked_setups.proofs.reading.open_packed_checked.Reads as open-packed-checked

-- what is promised of what is given of the outcome, and of the three tables
abbrev pub OpensChecked : Setup → List ℕ → List ℤ → List ℤ → Opened → List ℕ → List ℤ → List ℤ → Type 0
OpensChecked s held side1 side2 = OpensBy (checked_answer s held side1 side2) s held side1 side2

pub open-checked-promises : (κs : Lfts 3) (s : Setup) (held held' : MutBor (List ℕ)) (side1 side1' side2 side2' : MutBor (List ℤ)) (r : Result Book Refusal)
    → open-checked.Post κs (s, (held, (side1, (side2, tt)))) r (s, (held', (side1', (side2', tt))))
    → OpensChecked s held.now side1.now side2.now (opened_seen r) held'.now side1'.now side2'.now
open-checked-promises κs s held held' side1 side1' side2 side2' r p = p

pub checked-is-open : (s : Setup) (held : List ℕ) (side1 side2 : List ℤ) (r : Opened) (h : List ℕ) (l1 l2 : List ℤ)
    → OpensChecked s held side1 side2 r h l1 l2 → r.answer ≡ 0 → Opens s held side1 side2 r h l1 l2
unfolding opened
checked-is-open s held side1 side2 r h l1 l2 p accepted =
    let passes : checked_answer s held side1 side2 ≡ 0 = sym (ap (λ (x : Opened). x.answer) p.0) ∙ accepted in
    opens_by s held side1 side2 (sym (both-open s held side1 side2 passes)) p

-- and from a packed setup
abbrev pub OpensPackedChecked : List ℕ → List ℕ → List ℤ → List ℤ → OpenedPacked → List ℕ → List ℤ → List ℤ → Type 0
OpensPackedChecked bytes held side1 side2 = OpensPackedBy (read_checked_setup bytes (length held) (length side1) (length side2)) held side1 side2

pub open-packed-checked-promises : (κs : Lfts 4) (bytes bytes' : Bor (List ℕ)) (held held' : MutBor (List ℕ)) (side1 side1' side2 side2' : MutBor (List ℤ)) (r : Result (AtFront Book) Refusal)
    → open-packed-checked.Post κs (bytes, (held, (side1, (side2, tt)))) r (bytes', (held', (side1', (side2', tt))))
    → OpensPackedChecked bytes.now held.now side1.now side2.now (opened_packed_seen r) held'.now side1'.now side2'.now
open-packed-checked-promises κs bytes bytes' held held' side1 side1' side2 side2' r p = p

pub checked-is-packed : (bytes held : List ℕ) (side1 side2 : List ℤ) (r : OpenedPacked) (h : List ℕ) (l1 l2 : List ℤ)
    → OpensPackedChecked bytes held side1 side2 r h l1 l2 → r.answer ≡ 0 → OpensPacked bytes held side1 side2 r h l1 l2
unfolding opened_packed
checked-is-packed bytes held side1 side2 r h l1 l2 p accepted =
    let number = checked-reading-answer bytes (length held) (length side1) (length side2) in
    let passes = sym number ∙ sym (ap (λ (x : OpenedPacked). x.answer) p.0) ∙ accepted in
    packed-by held side1 side2 (sym (same-reading bytes (length held) (length side1) (length side2) passes)) p
