-- A book from a packed setup: it opens exactly where it reads. What was read keeps the setup rules, and a refused setup, all zero, breaks them.
use mathlib.Core.List.{List}
use mathlib.Core.Logic.{◌≢◌}
use mathlib.Core.Path.{◌≡◌, sym, ap, ◌∙◌}
use Prim.Native.Nat.{ℕ}
use lib.IntN.{ℤ}
use lib.ListN.{length}
use borrow.Author.Tests.{eqb-true, eq-eqb, ne_eqb}
use Rattle.words.specs.Tests.{◌=?◌}
use Rattle.words.specs.Rules.{answer}
use Rattle.laws.proofs.Cases.{by-eq, one-outcome}
use Rattle.meaning.specs.Ledgers.{contracts}
use Rattle.meaning.specs.Books as Books
use Rattle.meaning.specs.Books.{counts_wrong, opening_rules, opened_book}
use Rattle.meaning.specs.PackedMessages.{Reading}
use Rattle.meaning.specs.PackedSetups.{no_setup, setup_in, setup_reading_rules, read_setup}
use Rattle.meaning.proofs.PackedSetupRules.{setup-reading-answer, setup-reading-done, setup-readable}
use Rattle.setups.specs.Structs.{no_setup_struct, setup_of, setup_for}
use Rattle.setups.specs.declared.Setup.{Setup}
use Rattle.setup_reading.specs.Structs.{setup_read}
use Rattle.setup_reading.specs.declared.SetupRead.{SetupRead}
use Rattle.setup_reading.proofs.ReadParts.{struct_holds, few-codes, few-rows}
use Rattle.setups.proofs.SetupHeld.{codes-own}
use Rattle.book.specs.Answers.{no_book, opened, opened_packed, held_opened, side_opened}
use Rattle.book.specs.declared.Opened.{Opened}
use Rattle.book.specs.declared.OpenedPacked.{OpenedPacked}
use Rattle.book.specs.Structs.{book_of}
use Rattle.book.proofs.OpeningLaws.{opened-book, opened-refused, held-refused, side-refused}
use Rattle.book.proofs.UniqueState.{Opens}

-- ---- it opens exactly where it reads

module _ (bytes : List ℕ) (slots lent1 lent2 : ℕ) where
  abbrev reading : Reading Books.Setup
  reading = read_setup bytes slots lent1 lent2

  abbrev number : ℕ
  number = answer (setup_reading_rules bytes slots lent1 lent2)

  abbrev opening : Books.Setup → ℕ
  opening s = answer (opening_rules s slots lent1 lent2)

  -- a setup that was read is what its struct holds, and opens
  read_held : number ≡ 0 → setup_of (setup_for (setup_in bytes)) ≡ setup_in bytes
  read_held e =
      let r = setup-readable bytes slots lent1 lent2 e in
      struct_holds (setup_in bytes) (few-codes (setup_in bytes) r.counts) (few-rows (setup_in bytes) r.counts)

  read-opens : number ≡ 0 → opening (setup_in bytes) ≡ 0
  unfolding answer opening_rules
  read-opens e =
      let r = setup-readable bytes slots lent1 lent2 e in
      rw (r.counts, r.last_day, r.lent, r.codes, r.rows)

  refused-read : number ≢ 0 → reading ≡ record { answer = number; length = 0; read = no_setup }
  unfolding read_setup
  refused-read n = rw (ne_eqb number 0 n)

  -- no day
  none-opens : opening (setup_of (setup_for no_setup)) ≡ 17
  unfolding answer opening_rules counts_wrong setup_of setup_for
  none-opens = rw (codes-own 0 (setup_for no_setup).codes)

  pub opens-exactly : (opening (setup_of (setup_for reading.read)) =? 0) ≡ (reading.answer =? 0)
  opens-exactly =
      by-eq number 0
      (λ e. rw (setup-reading-done bytes slots lent1 lent2 e, read_held e, read-opens e))
      (λ n. rw (refused-read n, none-opens, ne_eqb number 0 n))

-- ---- so what opening gives and leaves is what reading's answer says

module _ (n m : ℕ) (e : (n =? 0) ≡ (m =? 0)) where
  same-book : (s : Setup) → (opened s n).book ≡ (opened s m).book
  unfolding opened
  same-book s = rw e

  same-held : (held : List ℕ) → held_opened n held ≡ held_opened m held
  unfolding held_opened
  same-held held = rw e

  same-side : (side : List ℤ) → side_opened n side ≡ side_opened m side
  unfolding side_opened
  same-side side = rw e

-- what opening by what was read promises of its result and of the three tables
abbrev pub OpensPackedBy : Reading Books.Setup → List ℕ → List ℤ → List ℤ → OpenedPacked → List ℕ → List ℤ → List ℤ → Type 0
OpensPackedBy read held side1 side2 r h l1 l2 =
    (r ≡ opened_packed read) × (h ≡ held_opened read.answer held) × (l1 ≡ side_opened read.answer side1) × (l2 ≡ side_opened read.answer side2)

-- only what was read counts, not the rules that it was read by
pub packed-by : (held : List ℕ) (side1 side2 : List ℤ) {read read' : Reading Books.Setup} {r : OpenedPacked} {h : List ℕ} {l1 l2 : List ℤ}
    → read ≡ read' → OpensPackedBy read held side1 side2 r h l1 l2 → OpensPackedBy read' held side1 side2 r h l1 l2
packed-by held side1 side2 e p = (
  p.0 ∙ ap opened_packed e,
  p.1 ∙ ap (λ (x : Reading Books.Setup). held_opened x.answer held) e,
  p.2 ∙ ap (λ (x : Reading Books.Setup). side_opened x.answer side1) e,
  p.3 ∙ ap (λ (x : Reading Books.Setup). side_opened x.answer side2) e,
)

module _ (bytes held : List ℕ) (side1 side2 : List ℤ) where
  abbrev whole : Reading Books.Setup
  whole = read_setup bytes (length held) (length side1) (length side2)

  -- what is promised of the result and of the three tables
  abbrev pub OpensPacked : OpenedPacked → List ℕ → List ℤ → List ℤ → Type 0
  OpensPacked = OpensPackedBy whole held side1 side2

  -- reading refused
  pub refused_by_reading : (n : ℕ) → n ≢ 0 → record { answer = n; length = 0; setup = no_setup_struct } ≡ setup_read whole
      → OpensPacked (record { answer = n; length = 0; book = no_book }) held side1 side2
  unfolding setup_read opened_packed
  refused_by_reading n refused e =
      let number : n ≡ whole.answer = ap (λ (r : SetupRead). r.answer) e in
      let none : 0 ≡ whole.length = ap (λ (r : SetupRead). r.length) e in
      rw (← number, ← none) (
        rw (opened-refused n refused (setup_for whole.read)),
        sym (held-refused n refused held),
        sym (side-refused n refused side1),
        sym (side-refused n refused side2),
      )

  pub opened-from : (read : SetupRead) (o : Opened) (h : List ℕ) (l1 l2 : List ℤ) → read ≡ setup_read whole → Opens read.setup held side1 side2 o h l1 l2
      → OpensPacked (record { answer = read.answer; length = read.length; book = o.book }) h l1 l2
  unfolding setup_read opened_packed
  opened-from read o h l1 l2 e q =
      let s = setup_for whole.read in
      let n = answer (opening_rules (setup_of s) (length held) (length side1) (length side2)) in
      let m = whole.answer in
      let same = opens-exactly bytes (length held) (length side1) (length side2) in
      let w : Opens s held side1 side2 o h l1 l2 = rw e at q in (
        rw (e, w.0, same-book n m same s),
        w.1 ∙ same-held n m same held,
        w.2 ∙ same-side n m same side1,
        w.3 ∙ same-side n m same side2,
      )

  -- what was read opens
  pub read-always-opens : (n : ℕ) (s : Setup) → record { answer = 0; length = n; setup = s } ≡ setup_read whole
      → answer (opening_rules (setup_of s) (length held) (length side1) (length side2)) ≡ 0
  unfolding setup_read
  read-always-opens n s e =
      let m = answer (opening_rules (setup_of (setup_for whole.read)) (length held) (length side1) (length side2)) in
      let read : whole.answer ≡ 0 = sym (ap (λ (r : SetupRead). r.answer) e) in
      let opens : m ≡ 0 = eqb-true m 0 (opens-exactly bytes (length held) (length side1) (length side2) ∙ eq-eqb whole.answer 0 read) in
      ap (λ (x : Setup). answer (opening_rules (setup_of x) (length held) (length side1) (length side2))) (ap (λ (r : SetupRead). r.setup) e) ∙ opens

  -- where it is accepted, no rule of opening refuses the setup in the bytes, and the book with its tables is the one that meaning opens from it
  module _ (r : OpenedPacked) (h : List ℕ) (l1 l2 : List ℤ) (opens : OpensPacked r h l1 l2) (accepted : r.answer ≡ 0) where
    read_done : answer (setup_reading_rules bytes (length held) (length side1) (length side2)) ≡ 0
    unfolding opened_packed
    read_done = sym (setup-reading-answer bytes (length held) (length side1) (length side2)) ∙ sym (ap (λ (x : OpenedPacked). x.answer) opens.0) ∙ accepted

    pub packed-accepted : answer (opening_rules (setup_in bytes) (length held) (length side1) (length side2)) ≡ 0
    packed-accepted = read-opens bytes (length held) (length side1) (length side2) read_done

    pub packed-book : book_of r.book h l1 l2 ≡ opened_book contracts (setup_in bytes) (length held)
    unfolding opened_packed
    packed-book =
        let same = read_held bytes (length held) (length side1) (length side2) read_done in
        let s = setup_for (setup_in bytes) in
        rw (opens.0, opens.1, opens.2, opens.3, setup-reading-done bytes (length held) (length side1) (length side2) read_done)
        (opened-book s held side1 side2 (rw same packed-accepted) ∙ ap (λ (x : Books.Setup). opened_book contracts x (length held)) same)

pub unique-open-packed : (bytes held : List ℕ) (side1 side2 : List ℤ) (r r' : OpenedPacked) (h h' : List ℕ) (l1 l1' l2 l2' : List ℤ)
    → OpensPacked bytes held side1 side2 r h l1 l2 → OpensPacked bytes held side1 side2 r' h' l1' l2' → (r ≡ r') × (h ≡ h') × (l1 ≡ l1') × (l2 ≡ l2')
unique-open-packed bytes held side1 side2 r r' h h' l1 l1' l2 l2' p q =
    (one-outcome p.0 q.0, one-outcome p.1 q.1, one-outcome p.2 q.2, one-outcome p.3 q.3)
