-- No two different outcomes keep one promise of `book`: the result, and of `open` each table left.
use mathlib.Core.List.{List}
use mathlib.Core.Path.{ap}
use Prim.Native.Nat.{ℕ}
use contract.Lifetimes.{Lfts}
use denote.MutBor.{MutBor}
use lib.IntN.{ℤ}
use Rattle.std.specs.Prelude.{Result}
use Rattle.laws.proofs.Cases.{one-outcome}
use Rattle.laws.proofs.Promises.{OneOutcome, OneResult}
use Rattle.limits.specs.declared.refusals.Refusal.{Refusal}
use Rattle.limits.proofs.AnswerNumbers.{same-answer}
use Rattle.setups.specs.declared.Setup.{Setup}
use Rattle.setups.specs.Structs.{row_for}
use Rattle.book.specs.declared.Book.{Book}
use Rattle.book.specs.declared.Opened.{Opened}
use Rattle.book.specs.Answers.{opened_seen}
use Rattle.book.proofs.OpeningLaws.{OpensBy, opening_answer, same-opened, same-opened-packed}
use Rattle.book.proofs.state.clock_of.Reads as clock-of
use Rattle.book.proofs.state.row_of.Reads as row_of
use Rattle.book.proofs.state.origin_place.Reads as origin-place
use Rattle.book.proofs.state.origin_row.Reads as origin-row
use Rattle.book.proofs.BookView.is_sound.Reads as is-sound
use Rattle.book.proofs.soundness.is_sound.Reads as is-sound-apart
use Rattle.book.proofs.opening.opening_refusal.Reads as opening-refusal
use Rattle.book.proofs.opening.no_book.Reads as no-book
use Rattle.book.proofs.opening.open.Reads as opening
use Rattle.book.proofs.opening.open_packed.Reads as opening-packed

pub unique-clock-of : OneResult clock-of.Post
unique-clock-of κs a r r' s s' = one-outcome

-- a row is all that its struct has
pub unique-row-of : OneResult row_of.Post
unique-row-of κs a r r' s s' p q = ap row_for (one-outcome p q)

pub unique-origin-place : OneResult origin-place.Post
unique-origin-place κs a r r' s s' = one-outcome

pub unique-origin-row : OneResult origin-row.Post
unique-origin-row κs a r r' s s' = one-outcome

pub unique-is-sound : OneResult is-sound.Post
unique-is-sound κs a r r' s s' = one-outcome

pub unique-is-sound-apart : OneResult is-sound-apart.Post
unique-is-sound-apart κs a r r' s s' = one-outcome

pub unique-opening-refusal : OneResult opening-refusal.Post
unique-opening-refusal κs a r r' s s' p q = same-answer r r' (one-outcome p q)

pub unique-no-book : OneResult no-book.Post
unique-no-book κs a r r' s s' = one-outcome

pub unique-open : OneResult opening.Post
    × OneOutcome opening.Post (λ κs r s. s.1.0.now)
    × OneOutcome opening.Post (λ κs r s. s.1.1.0.now)
    × OneOutcome opening.Post (λ κs r s. s.1.1.1.0.now)
unique-open = (
  λ κs a r r' s s' p q. same-opened r r' (one-outcome p.0 q.0),
  λ κs a r r' s s' p q. one-outcome p.1 q.1,
  λ κs a r r' s s' p q. one-outcome p.2 q.2,
  λ κs a r r' s s' p q. one-outcome p.3 q.3,
)

pub unique-open-packed-outcome : OneResult opening-packed.Post
unique-open-packed-outcome κs a r r' s s' p q = same-opened-packed r r' (one-outcome p.0 q.0)

-- what `open` ensures of what is given of its outcome, and of the three tables
abbrev pub Opens : Setup → List ℕ → List ℤ → List ℤ → Opened → List ℕ → List ℤ → List ℤ → Type 0
Opens s held side1 side2 = OpensBy (opening_answer s held side1 side2) s held side1 side2

pub open-promises : (κs : Lfts 3) (s : Setup) (held held' : MutBor (List ℕ)) (side1 side1' side2 side2' : MutBor (List ℤ)) (r : Result Book Refusal)
    → opening.Post κs (s, (held, (side1, (side2, tt)))) r (s, (held', (side1', (side2', tt))))
    → Opens s held.now side1.now side2.now (opened_seen r) held'.now side1'.now side2'.now
open-promises κs s held held' side1 side1' side2 side2' r p = p
