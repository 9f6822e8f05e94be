-- Our table, document 01's "What a notification does": what a notification and a nullification write, shown by the rows of both sides.
use mathlib.Core.Bool.{Bool, ◌&&◌}
use mathlib.Core.List.{List, [], ◌∷◌, ◌++◌}
use Prim.Native.Nat.{ℕ, suc, ◌+◌}
use lib.IntN.{ℤ, pos, neg_ℤ}
use lib.ListN.{length, replicate}
use Rattle.words.specs.Tests.{◌=?◌}
use Rattle.words.specs.Lists.{build}
use Rattle.meaning.specs.Ledgers.{contracts}
use Rattle.meaning.specs.Messages.{Entry}
use Rattle.meaning.specs.Books.{Book}
use Rattle.meaning.specs.History.{after}
use Rattle.meaning.specs.Rows.{row_rules, row}
use Rattle.meaning.proofs.Stories.{◌/₁◌, entry, send, tell, cancel, answers, shows, empty}
use Rattle.meaning.proofs.OurBook.{start, clock, seven, nine, told100, gives}

abbrev zeros : ℕ → List ℤ
zeros n = replicate n (pos 0)

abbrev five_then_zeros : ℕ → List ℤ
five_then_zeros n = pos 5 ∷ zeros n

-- "agent 1 writes side 1, agent 2 side 2"; "The day's row is shown as a part of side 1's or side 2's own table, the day's length long"; a notification of
-- several days places its period 47 two periods earlier on a day of 46 and two later on a day of 50, and one of a single day its own period 50 there
abbrev the_long_one : Bool
the_long_one =
    let long = after start (tell 0 7 (0 /₁ 1) 100 65535 47 (pos 5) ∷ tell 0 9 (0 /₁ 1) 102 102 50 (pos 6) ∷ []) in
    shows long (0 /₁ 1) 100 1 (zeros 46 ++ five_then_zeros 1)
    && shows long (0 /₁ 1) 101 1 (zeros 44 ++ five_then_zeros 1)
    && shows long (0 /₁ 1) 102 1 (zeros 48 ++ five_then_zeros 1)
    && empty long (0 /₁ 1) 100 2 48
    && empty long (0 /₁ 1) 101 2 46
    && shows long (0 /₁ 1) 102 2 (zeros 49 ++ (pos 6 ∷ []))

-- so many whole numbers from one on, and a notification's entries that give each of its 48 periods its own number
abbrev rising : ℕ → ℕ → List ℤ
rising from n = build n (λ (k : ℕ). pos (from + k))

abbrev numbered : List (Entry contracts)
numbered = build 48 (λ (k : ℕ). entry (suc k) (pos (suc k)))

abbrev evergreen_numbered : Book contracts
evergreen_numbered = after start (send 0 7 500 (0 /₁ 1) 100 65535 numbered ∷ [])

-- Document 02, A1, day 101: "A 48-period notification over a 46-period day must drop its periods 3 and 4, and its 5 to 48 become 3 to 46"; on day 100
-- nothing moves
abbrev the_spring_day : Bool
the_spring_day =
    shows evergreen_numbered (0 /₁ 1) 100 1 (rising 1 48)
    && shows evergreen_numbered (0 /₁ 1) 101 1 (pos 1 ∷ pos 2 ∷ rising 5 44)

-- day 102: "Over a 50-period day 1 to 4 stay, 3 and 4 are given again as 5 and 6, and 5 to 48 become 7 to 50"
abbrev the_autumn_day : Bool
the_autumn_day = shows evergreen_numbered (0 /₁ 1) 102 1 (pos 1 ∷ pos 2 ∷ pos 3 ∷ pos 4 ∷ pos 3 ∷ pos 4 ∷ rising 5 44)

-- "a period of the day is omitted when the notification omits the period placed on it": one that names 3 and 4 alone states the short day, as zeros, and
-- the long day's 3 to 6. For a single day both name the day's own.
abbrev the_repeated_hour : Bool
the_repeated_hour =
    let threeAndFour = entry 3 (pos 5) ∷ entry 4 (pos 6) ∷ [] in
    let several = after start (send 0 7 500 (0 /₁ 1) 101 102 threeAndFour ∷ send 0 9 500 (0 /₁ 1) 102 102 threeAndFour ∷ send 0 9 500 (0 /₁ 2) 101 101 threeAndFour ∷ []) in
    shows several (0 /₁ 1) 101 1 (zeros 46)
    && shows several (0 /₁ 1) 102 1 (zeros 2 ++ (pos 5 ∷ pos 6 ∷ pos 5 ∷ pos 6 ∷ zeros 44))
    && shows several (0 /₁ 1) 102 2 (zeros 2 ++ (pos 5 ∷ pos 6 ∷ zeros 46))
    && shows several (0 /₁ 2) 101 2 (zeros 2 ++ (pos 5 ∷ pos 6 ∷ zeros 42))

-- with five of the long day's gates closed (48 + 46 + 5), a replacement of its repeated hour finds period 6 open and 5 closed
abbrev the_half_of_the_hour : Bool
the_half_of_the_hour =
    let told = after start (send 0 7 500 (0 /₁ 1) 100 102 (entry 3 (pos 5) ∷ entry 4 (pos 6) ∷ []) ∷ []) in
    let replaced = after (clock 99 told) (send 0 7 500 (0 /₁ 1) 100 65535 (entry 3 (pos 8) ∷ entry 4 (pos 9) ∷ []) ∷ []) in
    shows replaced (0 /₁ 1) 102 1 (zeros 2 ++ (pos 5 ∷ pos 6 ∷ pos 5 ∷ pos 9 ∷ zeros 44))
    && shows replaced (0 /₁ 1) 101 1 (zeros 46)

-- "Equal agents mean single notification: that agent writes both sides."
abbrev the_single_one : Bool
the_single_one =
    let single = after start (seven 1 (1 /₁ 1) 100 100 ∷ []) in
    shows single (1 /₁ 1) 100 1 (five_then_zeros 47) && shows single (1 /₁ 1) 100 2 (five_then_zeros 47)

-- "From the later of its first day and the current day, every open place of the identifier on the written sides is rewritten: its volume, zero where a
-- period is omitted, the mark after its last day. Closed places never change." Two gates are closed, and the replacement starts before the book.
abbrev the_rewritten : Bool
the_rewritten =
    let told = after start (send 0 7 500 (0 /₁ 1) 100 102 (entry 1 (pos 5) ∷ entry 2 (pos 5) ∷ entry 3 (pos 5) ∷ entry 4 (pos 5) ∷ []) ∷ nine 0 (0 /₁ 1) 100 102 ∷ []) in
    let replaced = after (clock 2 told) (send 0 7 500 (0 /₁ 1) 99 101 (entry 1 (pos 8) ∷ entry 2 (pos 8) ∷ entry 3 (pos 8) ∷ []) ∷ []) in
    shows replaced (0 /₁ 1) 100 1 (pos 5 ∷ pos 5 ∷ pos 8 ∷ zeros 45)
    && shows replaced (0 /₁ 1) 101 1 (pos 8 ∷ pos 8 ∷ zeros 44)
    && empty replaced (0 /₁ 1) 102 1 50
    && shows replaced (0 /₁ 1) 100 2 (five_then_zeros 47)
    && shows replaced (0 /₁ 1) 102 2 (five_then_zeros 49)

-- the same from day 101 on: the day before its first is kept, and so is another identifier
abbrev the_kept : Bool
the_kept =
    let told = after start (seven 0 (0 /₁ 1) 100 102 ∷ seven 0 (0 /₁ 2) 100 102 ∷ []) in
    let replaced = after told (tell 0 7 (0 /₁ 1) 101 101 1 (pos 8) ∷ []) in
    shows replaced (0 /₁ 1) 100 1 (five_then_zeros 47)
    && shows replaced (0 /₁ 1) 101 1 (pos 8 ∷ zeros 45)
    && empty replaced (0 /₁ 1) 102 1 50
    && shows replaced (0 /₁ 2) 101 1 (five_then_zeros 45)

-- 0/1 of accounts 0 and 1 on side 1, 1/1 of accounts 1 and 2 on both
abbrev two_pairs : Book contracts
two_pairs = after told100 (seven 1 (1 /₁ 1) 100 102 ∷ [])

-- "A nullification names two accounts, in either order, and a first day. For each identifier between them, open places from that day on become the
-- mark." One gate is closed; the other pair is kept.
abbrev the_nullified : Bool
the_nullified =
    let cleared = after (clock 1 two_pairs) (cancel 2 1 100 ∷ []) in
    let marks : ℕ → List ℤ = λ n. replicate n (neg_ℤ (pos 2147483648)) in
    shows cleared (1 /₁ 1) 100 1 (pos 5 ∷ marks 47)
    && shows cleared (1 /₁ 1) 100 2 (pos 5 ∷ marks 47)
    && shows cleared (1 /₁ 1) 101 1 (marks 46)
    && shows cleared (1 /₁ 1) 102 2 (marks 50)
    && shows cleared (0 /₁ 1) 100 1 (five_then_zeros 47)

-- from day 101 on, and of a pair that nothing stands between: "Nothing standing is still answer 0."
abbrev the_later_nullified : Bool
the_later_nullified =
    let later = after two_pairs (cancel 1 2 101 ∷ []) in
    shows later (1 /₁ 1) 100 2 (five_then_zeros 47)
    && empty later (1 /₁ 1) 101 2 46
    && empty later (1 /₁ 1) 102 2 50
    && answers two_pairs (cancel 0 2 100) 0
    && shows (after two_pairs (cancel 0 2 100 ∷ [])) (1 /₁ 1) 100 1 (five_then_zeros 47)

-- "16: no such day number, period or side"; a row "is empty exactly on a refusal"
abbrev the_refused_rows : Bool
the_refused_rows =
    let refused : ℕ → ℕ → ℕ → Bool = λ D side number. gives (row_rules told100 (0 /₁ 1) D side) number && length (row told100 (0 /₁ 1) D side) =? 0 in
    refused 99 1 16 && refused 103 1 16 && refused 100 0 16 && refused 100 3 16

abbrev pub effects : List Bool
effects =
    the_long_one ∷ the_spring_day ∷ the_autumn_day ∷ the_repeated_hour ∷ the_half_of_the_hour ∷ the_single_one ∷ the_rewritten ∷ the_kept ∷ the_nullified ∷ the_later_nullified ∷ the_refused_rows ∷ []
