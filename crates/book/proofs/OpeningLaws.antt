-- Opening: what a refusal leaves, and that an opened book with its emptied tables is the one that meaning speaks of.
use mathlib.Core.Bool.{true, false, true≢false}
use mathlib.Core.List.{List}
use mathlib.Core.Logic.{◌≢◌}
use mathlib.Core.Path.{◌≡◌, refl, sym, ap, ◌∙◌}
use Prim.Native.Nat.{ℕ}
use lib.IntN.{ℤ}
use lib.ListN.{length}
use borrow.Author.Tests.{ne_eqb}
use Rattle.std.specs.Prelude.{Result, Ok, Err, is_err}
use Rattle.words.specs.Rules.{answer}
use Rattle.fields.specs.declared.AtFront.{AtFront}
use Rattle.limits.specs.declared.refusals.Refusal.{Refusal}
use Rattle.limits.specs.Refusals.{number_of, answer_of}
use Rattle.limits.proofs.AnswerNumbers.{never-done}
use Rattle.limits.proofs.Told.{told}
use Rattle.meaning.specs.Ledgers.{contracts, empty_ledger}
use Rattle.meaning.specs.Books.{opening_rules, opened_book}
use Rattle.meaning.proofs.SetupRules.{opens}
use Rattle.setups.specs.declared.Setup.{Setup}
use Rattle.setups.specs.Structs.{setup_of}
use Rattle.book.specs.Answers.{no_book, opened, opened_seen, opened_packed_seen, held_opened, side_opened}
use Rattle.book.specs.declared.Book.{Book}
use Rattle.book.specs.declared.Opened.{Opened}
use Rattle.book.specs.declared.OpenedPacked.{OpenedPacked}
use Rattle.book.specs.Structs.{book_of}

-- ---- outcomes and what is given of them

pub number-refuses : (r : Refusal) → number_of r ≢ 0
number-refuses r e = never-done r e

pub answer-refuses : (r : Result Unit Refusal) → is_err r ≡ true → answer_of r ≢ 0
answer-refuses (Ok _) e = absurd (true≢false (sym e))
answer-refuses (Err r) e = number-refuses r

pub answer-done : (r : Result Unit Refusal) → is_err r ≡ false → answer_of r ≡ 0
answer-done (Ok _) e = refl
answer-done (Err r) e = absurd (true≢false e)

pub same-opened : (r s : Result Book Refusal) → opened_seen r ≡ opened_seen s → r ≡ s
same-opened = told opened_seen (λ (o : Opened). o.answer) (λ (o : Opened). o.book) (λ b. refl) (λ r. refl) (λ b. refl)

pub same-opened-packed : (r s : Result (AtFront Book) Refusal) → opened_packed_seen r ≡ opened_packed_seen s → r ≡ s
same-opened-packed = told opened_packed_seen (λ (o : OpenedPacked). o.answer) (λ (o : OpenedPacked). record { length = o.length; value = o.book }) (λ b. refl) (λ r. refl) (λ b. refl)

-- ---- a refusal

module _ (n : ℕ) (refused : n ≢ 0) where
  pub opened-refused : (s : Setup) → opened s n ≡ record { answer = n; book = no_book }
  unfolding opened
  opened-refused s = rw (ne_eqb n 0 refused)

  pub held-refused : (held : List ℕ) → held_opened n held ≡ held
  unfolding held_opened
  held-refused held = rw (ne_eqb n 0 refused)

  pub side-refused : (side : List ℤ) → side_opened n side ≡ side
  unfolding side_opened
  side-refused side = rw (ne_eqb n 0 refused)

-- what opening by an answer promises of its result and of the three tables
abbrev pub OpensBy : ℕ → Setup → List ℕ → List ℤ → List ℤ → Opened → List ℕ → List ℤ → List ℤ → Type 0
OpensBy answer s held side1 side2 r h l1 l2 =
    (r ≡ opened s answer) × (h ≡ held_opened answer held) × (l1 ≡ side_opened answer side1) × (l2 ≡ side_opened answer side2)

module _ (s : Setup) (held : List ℕ) (side1 side2 : List ℤ) {n m : ℕ} (e : n ≡ m) where
  -- with a refusal nothing is opened, and the tables are as they came
  pub opens-nothing : {b : Book} → n ≢ 0 → b ≡ no_book → OpensBy m s held side1 side2 (record { answer = n; book = b }) held side1 side2
  opens-nothing refused none =
      let made : Book → Opened = λ (b : Book). record { answer = n; book = b } in (
        ap made none ∙ sym (opened-refused n refused s) ∙ ap (opened s) e,
        sym (held-refused n refused held) ∙ ap (λ (k : ℕ). held_opened k held) e,
        sym (side-refused n refused side1) ∙ ap (λ (k : ℕ). side_opened k side1) e,
        sym (side-refused n refused side2) ∙ ap (λ (k : ℕ). side_opened k side2) e,
      )

  -- only the number counts, not the rules that it comes from
  pub opens_by : {r : Opened} {h : List ℕ} {l1 l2 : List ℤ} → OpensBy n s held side1 side2 r h l1 l2 → OpensBy m s held side1 side2 r h l1 l2
  opens_by p = (
    p.0 ∙ ap (opened s) e,
    p.1 ∙ ap (λ (k : ℕ). held_opened k held) e,
    p.2 ∙ ap (λ (k : ℕ). side_opened k side1) e,
    p.3 ∙ ap (λ (k : ℕ). side_opened k side2) e,
  )

abbrev pub opening_answer : Setup → List ℕ → List ℤ → List ℤ → ℕ
opening_answer s held side1 side2 = answer (opening_rules (setup_of s) (length held) (length side1) (length side2))

-- "Opening closes no gate, holds no identifier and sets every place to the mark."
pub opened-book : (s : Setup) (held : List ℕ) (side1 side2 : List ℤ) → opening_answer s held side1 side2 ≡ 0
    → book_of (opened s 0).book (held_opened 0 held) (side_opened 0 side1) (side_opened 0 side2) ≡ opened_book contracts (setup_of s) (length held)
unfolding opened held_opened side_opened opened_book empty_ledger setup_of
opened-book s held side1 side2 e =
    let o = opens (setup_of s) (length held) (length side1) (length side2) e in
    rw (o.side1, o.side2)
