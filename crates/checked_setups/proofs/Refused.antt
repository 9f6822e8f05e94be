-- What a refused packed setup opens: nothing.
use mathlib.Core.List.{List}
use mathlib.Core.Logic.{◌≢◌}
use mathlib.Core.Path.{◌≡◌, sym, ap, ◌∙◌}
use Prim.Native.Nat.{ℕ}
use lib.IntN.{ℤ}
use lib.ListN.{length}
use borrow.Author.Tests.{ne_eqb}
use Rattle.words.specs.Rules.{answer}
use Rattle.meaning.specs.PackedSetups.{no_setup}
use Rattle.meaning.proofs.PackedSetupRules.{read-by-answer}
use Rattle.setups.specs.Structs.{no_setup_struct, setup_for}
use Rattle.book.specs.Answers.{no_book, opened_packed}
use Rattle.book.specs.declared.Book.{Book}
use Rattle.book.specs.declared.Opened.{Opened}
use Rattle.book.specs.declared.OpenedPacked.{OpenedPacked}
use Rattle.book.proofs.OpeningLaws.{opened-refused, opens-nothing}
use Rattle.book.proofs.PackedOpening.{OpensPackedBy}
use Rattle.checked_setups.specs.Checked.{checked_reading_rules, read_checked_setup}

module _ (bytes : List ℕ) (slots lent1 lent2 : ℕ) where
  abbrev number : ℕ
  number = answer (checked_reading_rules bytes slots lent1 lent2)

  pub checked-reading-answer : (read_checked_setup bytes slots lent1 lent2).answer ≡ number
  unfolding read_checked_setup
  checked-reading-answer = read-by-answer number bytes

  refused-packed : {n : ℕ} {b : Book} → n ≡ number → n ≢ 0 → b ≡ no_book
      → ◌≡◌ {A = OpenedPacked} (record { answer = n; length = 0; book = b }) (opened_packed (read_checked_setup bytes slots lent1 lent2))
  unfolding read_checked_setup opened_packed
  refused-packed p h q =
      let refused : number ≢ 0 = λ z. h (p ∙ z) in
      let none = ap (λ (o : Opened). o.book) (opened-refused number refused (setup_for no_setup)) in
      rw (ne_eqb number 0 refused) (λ i. record { answer = p i; length = 0; book = (q ∙ sym none) i })

pub opens-no-bytes : (bytes held : List ℕ) (side1 side2 : List ℤ) {n : ℕ} {b : Book} → n ≡ number bytes (length held) (length side1) (length side2) → n ≢ 0 → b ≡ no_book
    → OpensPackedBy (read_checked_setup bytes (length held) (length side1) (length side2)) held side1 side2 (record { answer = n; length = 0; book = b }) held side1 side2
opens-no-bytes bytes held side1 side2 {n} e refused none =
    let same = e ∙ sym (checked-reading-answer bytes (length held) (length side1) (length side2)) in
    let stay = opens-nothing no_setup_struct held side1 side2 same refused none in
    (refused-packed bytes (length held) (length side1) (length side2) e refused none, stay.1, stay.2, stay.3)
