-- Our table, document 01's "The book" and "Answer numbers": the bounds of 1 to 11, each from both of its sides.
use mathlib.Core.Bool.{Bool, ◌&&◌}
use mathlib.Core.List.{List, [], ◌∷◌, ◌++◌}
use Prim.Native.Nat.{ℕ, ◌+◌}
use lib.IntN.{ℤ, pos, neg_ℤ}
use Rattle.words.specs.Tests.{◌=?◌}
use Rattle.words.specs.Lists.{build}
use Rattle.meaning.specs.Time.{current_day}
use Rattle.meaning.specs.Ledgers.{contracts}
use Rattle.meaning.specs.Messages.{Entry}
use Rattle.meaning.specs.Calls.{Call, gate}
use Rattle.meaning.proofs.Stories.{◌/₁◌, entry, send, tell, cancel, answers, initial_in, refuses, refuses_at}
use Rattle.meaning.proofs.OurBook.{start, clock, seven, nine}

-- "2: every gate is closed", 48 + 46 + 50 of them; "gates closed do not exceed the periods" (1)
abbrev the_last_gate : Bool
the_last_gate =
    answers (clock 143 start) gate 0
    && answers (clock 144 start) gate 2
    && answers (clock 145 start) gate 1
    && initial_in 0 (clock 143 start) (seven 0 (0 /₁ 1) 102 102)
    && refuses 2 (clock 144 start) (seven 0 (0 /₁ 1) 102 102)
    && answers (clock 143 start) (cancel 0 1 102) 0
    && answers (clock 144 start) (cancel 0 1 102) 2

-- "The current day is the earliest with an open gate."
abbrev the_current_day : Bool
the_current_day =
    current_day (clock 0 start).setting.time =? 100
    && current_day (clock 47 start).setting.time =? 100
    && current_day (clock 48 start).setting.time =? 101
    && current_day (clock 93 start).setting.time =? 101
    && current_day (clock 94 start).setting.time =? 102

-- "3: authorisation number unknown. 4: key wrong, or agent is neither of its two"
abbrev the_sender : Bool
the_sender =
    initial_in 0 start (nine 0 (0 /₁ 1) 100 100)
    && initial_in 0 (clock 48 start) (seven 7 (7 /₁ 1) 101 101)
    && refuses 3 (clock 48 start) (seven 8 (8 /₁ 1) 101 101)
    && refuses 4 start (send 0 7 501 (0 /₁ 1) 100 100 [])
    && refuses 4 start (send 0 8 500 (0 /₁ 1) 100 100 [])
    && refuses 4 start (send 1 9 600 (1 /₁ 1) 100 100 [])

-- "5: authorisation not in force on the current day": the day before its first, its first, its last and the day after, whatever days the message has
abbrev the_force : Bool
the_force =
    refuses 5 start (seven 7 (7 /₁ 1) 101 101)
    && initial_in 0 (clock 48 start) (seven 7 (7 /₁ 1) 101 101)
    && initial_in 0 (clock 48 start) (seven 2 (2 /₁ 1) 101 102)
    && refuses 5 (clock 94 start) (seven 2 (2 /₁ 1) 101 102)

-- "6: originator is neither this authorisation nor one whose last day is before the current day with the same account 1 and account 2"; evergreen
-- is "never expired". On its last day 101 authorisation 2 is not expired; crossed accounts, another account 2 or another account 1 are not the same.
abbrev the_originator : Bool
the_originator =
    refuses 6 start (seven 0 (2 /₁ 1) 100 100)
    && refuses 6 (clock 48 start) (seven 0 (2 /₁ 1) 101 101)
    && initial_in 0 (clock 94 start) (seven 0 (2 /₁ 1) 102 102)
    && refuses 6 (clock 94 start) (seven 0 (3 /₁ 1) 102 102)
    && refuses 6 (clock 94 start) (seven 0 (4 /₁ 1) 102 102)
    && refuses 6 (clock 94 start) (seven 0 (5 /₁ 1) 102 102)
    && refuses 6 (clock 94 start) (seven 1 (6 /₁ 1) 102 102)
    && refuses 6 (clock 94 start) (seven 0 (8 /₁ 1) 102 102)

-- "7: last day before first day. 8: last day before the current day. 9: first day after the book's last day"; "Evergreen counts as later than every
-- day in 7 and 8"
abbrev the_days : Bool
the_days =
    initial_in 0 start (seven 0 (0 /₁ 1) 101 101)
    && refuses 7 start (seven 0 (0 /₁ 1) 101 100)
    && initial_in 0 (clock 47 start) (seven 0 (0 /₁ 1) 99 100)
    && refuses 8 (clock 48 start) (seven 0 (0 /₁ 1) 99 100)
    && initial_in 0 start (seven 0 (0 /₁ 1) 102 65535)
    && refuses 9 start (seven 0 (0 /₁ 1) 103 65535)
    && answers start (cancel 0 1 102) 0
    && answers start (cancel 0 1 103) 9

-- "10: a period is 0 or too high, or periods do not strictly rise"; "First and last day equal: periods 1 to that day's length. Otherwise, evergreen
-- included: periods 1 to 48."
abbrev the_periods : Bool
the_periods =
    let sent : List (Entry contracts) → Call contracts = λ es. send 0 7 500 (0 /₁ 1) 100 100 es in
    initial_in 0 start (sent [])
    && initial_in 0 start (sent (entry 1 (pos 5) ∷ entry 2 (pos 5) ∷ entry 48 (pos 5) ∷ []))
    && refuses 10 start (sent (entry 0 (pos 5) ∷ []))
    && refuses_at 10 1 start (sent (entry 2 (pos 5) ∷ entry 2 (pos 5) ∷ []))
    && refuses_at 10 1 start (sent (entry 2 (pos 5) ∷ entry 1 (pos 5) ∷ []))
    && refuses_at 10 1 start (sent (entry 1 (pos 5) ∷ entry 49 (pos 5) ∷ []))
    && initial_in 0 start (tell 0 7 (0 /₁ 1) 101 101 46 (pos 5))
    && refuses 10 start (tell 0 7 (0 /₁ 1) 101 101 47 (pos 5))
    && initial_in 0 start (tell 0 7 (0 /₁ 1) 102 102 50 (pos 5))
    && refuses 10 start (tell 0 7 (0 /₁ 1) 102 102 51 (pos 5))
    && initial_in 0 start (tell 0 7 (0 /₁ 1) 101 65535 48 (pos 5))
    && refuses 10 start (tell 0 7 (0 /₁ 1) 102 65535 49 (pos 5))

-- "Volumes are whole kWh, from -99,999,999 to 99,999,999"; "11: a volume out of range", in whichever entry
abbrev the_volumes : Bool
the_volumes =
    let sent : ℤ → Call contracts = λ v. send 0 7 500 (0 /₁ 1) 100 100 (entry 1 (pos 5) ∷ entry 2 v ∷ []) in
    initial_in 0 start (sent (pos 99999999))
    && initial_in 0 start (sent (neg_ℤ (pos 99999999)))
    && refuses_at 11 1 start (sent (pos 100000000))
    && refuses_at 11 1 start (sent (neg_ℤ (pos 100000000)))

-- "Refusals 10 and 11 are to carry the first offending entry's place, counted from 0 .. 10 is still decided over all entries before 11" (02, A3): at
-- the first, in the middle, at the last and past the 50th; the later of two that do not rise; the least of several; and 10 after 11
abbrev the_places : Bool
the_places =
    let sent : List (Entry contracts) → Call contracts = λ es. send 0 7 500 (0 /₁ 1) 102 102 es in
    let good : ℕ → ℕ → List (Entry contracts) = λ from n. build n (λ (k : ℕ). entry (from + k) (pos 5)) in
    let wide : ℤ = pos 100000000 in
    refuses_at 10 0 start (sent (entry 0 (pos 5) ∷ good 1 49))
    && refuses_at 10 0 start (sent (entry 51 (pos 5) ∷ good 2 49))
    && refuses_at 10 20 start (sent (good 1 20 ++ (entry 0 (pos 5) ∷ good 22 29)))
    && refuses_at 10 20 start (sent (good 1 20 ++ (entry 51 (pos 5) ∷ good 22 29)))
    && refuses_at 10 20 start (sent (good 1 20 ++ (entry 20 (pos 5) ∷ good 22 29)))
    && refuses_at 10 21 start (sent (good 1 20 ++ (entry 30 (pos 5) ∷ good 22 29)))
    && refuses_at 10 49 start (sent (good 1 49 ++ (entry 255 (pos 5) ∷ [])))
    && refuses_at 10 49 start (sent (good 1 49 ++ (entry 0 (pos 5) ∷ [])))
    && refuses_at 10 49 start (sent (good 1 49 ++ (entry 49 (pos 5) ∷ [])))
    && refuses_at 10 50 start (sent (good 1 51))
    && refuses_at 10 50 start (sent (good 1 50 ++ (entry 0 wide ∷ entry 7 wide ∷ [])))
    && refuses_at 10 3 start (sent (good 1 3 ++ (entry 0 (pos 5) ∷ entry 0 (pos 5) ∷ good 4 60)))
    && refuses_at 11 0 start (sent (entry 1 wide ∷ good 2 49))
    && refuses_at 11 20 start (sent (good 1 20 ++ (entry 21 wide ∷ entry 22 wide ∷ good 23 28)))
    && refuses_at 11 49 start (sent (good 1 49 ++ (entry 50 wide ∷ [])))
    && refuses_at 10 5 start (sent (entry 1 wide ∷ (good 2 4 ++ (entry 5 (pos 5) ∷ []))))
    && refuses 9 start (send 0 7 500 (0 /₁ 1) 103 103 (good 1 3 ++ (entry 0 wide ∷ [])))

-- "15: account not in the book, not in the pair, or the two equal": of a nullification's two accounts
abbrev the_pairs : Bool
the_pairs =
    answers start (cancel 2 0 100) 0
    && answers start (cancel 3 0 100) 15
    && answers start (cancel 0 3 100) 15
    && answers start (cancel 2 2 100) 15

abbrev pub refusals : List Bool
refusals =
    the_last_gate ∷ the_current_day ∷ the_sender ∷ the_force ∷ the_originator ∷ the_days ∷ the_periods ∷ the_volumes ∷ the_places ∷ the_pairs ∷ []
