-- What each part of the sheet program ensures of its result and of what it leaves, as a type: its contract, and what the theorem on the program knows.
use Rattle.std.specs.Prelude.{◌≡◌, ℕ, min, Bool, List, length, ℤ}
use Rattle.std.proofs.lemmas.List.Edits.{sets}
use Rattle.meaning.specs.PackedSetups.{read_setup}
use Rattle.meaning.specs.PackedCalls.{answers_in, places_in, run_on}
use Rattle.book.specs.declared.Book.{Book}
use Rattle.book.specs.Structs.{book_of}
use Rattle.book.specs.Answers.{held_opened, side_opened}
use Rattle.sheet_lines.specs.Places.{placed, all_placed, PutsAll}
use Rattle.sheet_turns.specs.Turns.{first_line, told, told_lines}
use Rattle.sheet_parts.specs.Parts.{begun_of, turned_of, account_day_lines, kept_of}
use Rattle.sheet_parts.specs.Seen.{Begun}
use Rattle.sheet_parts.specs.declared.Turned.{Turned}

-- `begin`: its result, the three tables and the buffer
abbrev pub Begins : List ℕ → List ℕ → List ℤ → List ℤ → List ℕ → Begun → List ℕ → List ℤ → List ℤ → List ℕ → Type 0
Begins bytes held side1 side2 out r h l1 l2 text =
    let read = read_setup bytes (length held) (length side1) (length side2) in
    (r ≡ begun_of (length out) read)
    × (h ≡ held_opened read.answer held)
    × (l1 ≡ side_opened read.answer side1)
    × (l2 ≡ side_opened read.answer side2)
    × (text ≡ placed out 0 (first_line read))

-- `turn`: its result, the three tables, the answers, the places and the buffer
abbrev pub Turns : Book → ℕ → List ℕ → Bool → List ℕ → List ℤ → List ℤ → List ℕ → List ℕ → List ℕ → Turned → List ℕ → List ℤ → List ℤ → List ℕ → List ℕ → List ℕ → Type 0
Turns b seen bytes ended held side1 side2 answers places out r h l1 l2 answers-left places-left text =
    let run = run_on (min (length answers) (length places)) (book_of b held side1 side2) bytes in
    (r ≡ turned_of b seen ended (length bytes) (length out) run)
    × (h ≡ run.book.ledger.held)
    × (l1 ≡ run.book.ledger.side1)
    × (l2 ≡ run.book.ledger.side2)
    × (answers-left ≡ sets answers 0 (answers_in run.outcomes))
    × (places-left ≡ sets places 0 (places_in run.outcomes))
    × (text ≡ all_placed out 0 (told_lines seen (told ended (length bytes) run)))

-- `keep`: the buffer and its result
abbrev pub Keeps : ℕ → ℕ → List ℕ → List ℕ → ℕ → Type 0
Keeps used have input left r = (left ≡ sets input 0 (kept_of used have input)) × (r ≡ length (kept_of used have input))

-- `put_account_day`: the buffer and its result
abbrev pub PutsAccountDay : Book → List ℕ → List ℤ → List ℤ → ℕ → List ℕ → List ℕ → ℕ → Type 0
PutsAccountDay b held side1 side2 k out left r = PutsAll (account_day_lines (book_of b held side1 side2) k) out 0 left r
