-- Our table, document 01's "What a notification does": when a notification is a replacement, additional or initial, what its type forbids (12, 13),
-- and its slot (14).
use mathlib.Core.Bool.{Bool, ◌&&◌}
use mathlib.Core.List.{List, [], ◌∷◌}
use Rattle.meaning.specs.History.{after}
use Rattle.meaning.proofs.Stories.{◌/₁◌, cancel, initial_in, replacement_in, additional_in, refuses}
use Rattle.meaning.proofs.OurBook.{start, clock, seven, nine, told100, told102, told_by_nine}

-- "It is a replacement if its identifier is held and, on a side it writes, states anything on the notification's first day or later": on that day
-- itself, on a day after its last too, in closed periods alone too; not on the day before, not on the other side, and not once it is nullified
abbrev the_replacement : Bool
the_replacement =
    replacement_in 0 told100 (seven 0 (0 /₁ 1) 100 100)
    && replacement_in 0 told102 (seven 0 (0 /₁ 1) 100 100)
    && replacement_in 0 (clock 48 told100) (seven 0 (0 /₁ 1) 100 101)
    && initial_in 0 told100 (seven 0 (0 /₁ 1) 101 102)
    && initial_in 0 told100 (nine 0 (0 /₁ 1) 100 100)
    && initial_in 0 told_by_nine (seven 0 (0 /₁ 1) 100 100)
    && replacement_in 0 told_by_nine (nine 0 (0 /₁ 1) 100 100)
    && initial_in 0 (after told100 (cancel 0 1 100 ∷ [])) (seven 0 (0 /₁ 1) 100 100)

-- "Otherwise it is additional if another held identifier .. states, on a side it writes, an open period on one of its days": on its first and its
-- last day, evergreen included; not on the day before or after, not on the other side, and not in closed periods alone
abbrev the_additional : Bool
the_additional =
    additional_in 1 told100 (seven 0 (0 /₁ 2) 100 102)
    && initial_in 1 told100 (seven 0 (0 /₁ 2) 101 102)
    && additional_in 1 told102 (seven 0 (0 /₁ 2) 100 102)
    && initial_in 1 told102 (seven 0 (0 /₁ 2) 100 101)
    && additional_in 1 told102 (seven 0 (0 /₁ 2) 100 65535)
    && initial_in 1 told100 (nine 0 (0 /₁ 2) 100 100)
    && initial_in 1 told_by_nine (seven 0 (0 /₁ 2) 100 100)
    && additional_in 1 told_by_nine (nine 0 (0 /₁ 2) 100 100)
    && additional_in 1 (clock 47 told100) (seven 0 (0 /₁ 2) 100 101)
    && initial_in 1 (clock 48 told100) (seven 0 (0 /₁ 2) 100 101)

-- "of the same account 1 and account 2": under another authorisation of the same accounts; not crossed, nor with another account 2 or account 1
abbrev the_same_accounts : Bool
the_same_accounts =
    additional_in 1 told100 (seven 2 (2 /₁ 1) 100 100)
    && initial_in 1 told100 (seven 3 (3 /₁ 1) 100 100)
    && initial_in 1 told100 (seven 4 (4 /₁ 1) 100 100)
    && initial_in 1 told100 (seven 5 (5 /₁ 1) 100 100)

-- "12: a replacement, and the type is additional. 13: an additional, and the type is replacement"; a replacement is no additional, and "no type
-- forbids" an initial one
abbrev the_types : Bool
the_types =
    let first = after start (seven 1 (1 /₁ 1) 100 100 ∷ []) in
    let both = after first (seven 6 (6 /₁ 1) 100 100 ∷ []) in
    initial_in 0 start (seven 1 (1 /₁ 1) 100 100)
    && initial_in 0 start (seven 6 (6 /₁ 1) 100 100)
    && additional_in 1 first (seven 6 (6 /₁ 1) 100 100)
    && refuses 12 both (seven 6 (6 /₁ 1) 100 100)
    && refuses 13 both (seven 1 (1 /₁ 2) 100 100)
    && replacement_in 0 both (seven 1 (1 /₁ 1) 100 100)

-- "A new identifier takes the lowest unheld slot. No slot is freed within a book, so 14 comes exactly when that many different identifiers have been
-- accepted."
abbrev the_slots : Bool
the_slots =
    let two = after told100 (seven 0 (0 /₁ 2) 100 100 ∷ []) in
    let three = after two (seven 2 (2 /₁ 1) 100 100 ∷ []) in
    additional_in 2 two (seven 2 (2 /₁ 1) 100 100)
    && refuses 14 three (seven 0 (0 /₁ 3) 100 100)
    && replacement_in 2 three (seven 2 (2 /₁ 1) 100 100)
    && refuses 14 (after three (cancel 0 1 100 ∷ [])) (seven 0 (0 /₁ 3) 100 100)
    && initial_in 1 (after three (cancel 0 1 100 ∷ [])) (seven 0 (0 /₁ 2) 100 100)

abbrev pub kinds : List Bool
kinds = the_replacement ∷ the_additional ∷ the_same_accounts ∷ the_types ∷ the_slots ∷ []
