-- Our table, document 01's "Answer numbers": the order of each chain, by its numbers and by calls and questions that meet a refusal and the next one.
use mathlib.Core.Bool.{Bool, ◌&&◌}
use mathlib.Core.List.{List, [], ◌∷◌}
use lib.IntN.{pos}
use Rattle.meaning.specs.Ledgers.{contracts}
use Rattle.meaning.specs.Books.{Setup, opening_rules, Book}
use Rattle.meaning.specs.Notifications.{notification_rules}
use Rattle.meaning.specs.Calls.{gate, gate_rules, nullification_rules}
use Rattle.meaning.specs.History.{after}
use Rattle.meaning.specs.Totals.{total_rules, figures_rules}
use Rattle.meaning.specs.Bars.{mark_rules}
use Rattle.meaning.specs.Rows.{row_rules}
use Rattle.meaning.specs.PackedMessages as Packed
use Rattle.meaning.specs.PackedMessages.{reading_rules, writing_rules}
use Rattle.meaning.specs.PackedSetups.{setup_reading_rules, setup_writing_rules}
use Rattle.meaning.proofs.Stories.{◌/₁◌, letter, send, tell, cancel, answers, refuses}
use Rattle.meaning.proofs.OurBook.{our_setup, start, clock, seven, told100, in_order, gives}

-- "Order, where several apply: opening 17, 18; notification 1 to 14 as numbered; nullification 1, 2, 15, 9; gate 1, 2; account total 1, 15, 16, 26;
-- mark 1, 25, 15, 16; row 1, 25, 16; day figures 1, 15, 16."
abbrev the_order : Bool
the_order =
    in_order (opening_rules our_setup 3 450 450) (17 ∷ 18 ∷ [])
    && in_order (notification_rules start (letter 0 7 500 0 100 100 [])) (1 ∷ 2 ∷ 3 ∷ 4 ∷ 5 ∷ 6 ∷ 7 ∷ 8 ∷ 9 ∷ 10 ∷ 11 ∷ 12 ∷ 13 ∷ 14 ∷ [])
    && in_order (nullification_rules start (record { account = 0; other = 1; first = 100 })) (1 ∷ 2 ∷ 15 ∷ 9 ∷ [])
    && in_order (gate_rules start) (1 ∷ 2 ∷ [])
    && in_order (total_rules start 0 100 1) (1 ∷ 15 ∷ 16 ∷ 26 ∷ [])
    && in_order (mark_rules start 0 0 100 1) (1 ∷ 25 ∷ 15 ∷ 16 ∷ [])
    && in_order (row_rules start 0 100 1) (1 ∷ 25 ∷ 16 ∷ [])
    && in_order (figures_rules start 0 100) (1 ∷ 15 ∷ 16 ∷ [])

-- "Message order: empty 19, 20, short of the 12 or 4 bytes 19, 21, short of the whole 19, 22. Setup order: under 5 bytes 19, wrong counts, last day
-- above 65,534 or lent lengths 17, short 19, code 3 17, rows 18, 22. .. a message of kind 3 gives 20 first, a setup 17 .. and then 18; after these
-- 23, then 24"
abbrev the_packed_order : Bool
the_packed_order =
    in_order (reading_rules (0 ∷ [])) (19 ∷ 20 ∷ 19 ∷ 21 ∷ 19 ∷ 22 ∷ [])
    && in_order (setup_reading_rules (0 ∷ []) 3 450 450) (19 ∷ 17 ∷ 19 ∷ 17 ∷ 18 ∷ 22 ∷ [])
    && in_order (writing_rules Packed.gate 1) (20 ∷ 23 ∷ 24 ∷ [])
    && in_order (setup_writing_rules our_setup 1) (17 ∷ 18 ∷ 23 ∷ 24 ∷ [])

-- ---- a refusal and the next one together

-- a book that is not sound: 145 gates of 144 are closed
abbrev unsound : Book contracts
unsound = clock 145 start

abbrev all_closed : Book contracts
all_closed = clock 144 start

-- "opening 17, 18": no account, so that every account of a row is out of the book too
abbrev opening_meets_two : Bool
opening_meets_two =
    let wrong : Setup = record { first = 100; codes = 1 ∷ []; accounts = 0; rows = our_setup.rows } in
    gives (opening_rules wrong 3 150 150) 17

-- "notification 1 to 14 as numbered". No message meets 8 and 9, 12 and 13, or 12 and 14 together.
abbrev notification_meets_two : Bool
notification_meets_two =
    let additionals = after start (seven 6 (6 /₁ 1) 100 100 ∷ []) in
    let full = after additionals (seven 6 (6 /₁ 2) 100 100 ∷ seven 6 (6 /₁ 3) 100 100 ∷ []) in
    refuses 1 unsound (seven 0 (0 /₁ 1) 102 102)
    && refuses 2 all_closed (seven 8 (0 /₁ 1) 102 102)
    && refuses 3 start (seven 8 (8 /₁ 1) 100 100)
    && refuses 4 start (send 7 8 1200 (7 /₁ 1) 101 101 [])
    && refuses 4 start (send 7 7 1201 (7 /₁ 1) 101 101 [])
    && refuses 5 start (seven 7 (1 /₁ 1) 100 100)
    && refuses 6 start (seven 0 (1 /₁ 1) 101 100)
    && refuses 7 start (seven 0 (0 /₁ 1) 100 99)
    && refuses 8 start (tell 0 7 (0 /₁ 1) 99 99 0 (pos 5))
    && refuses 9 start (tell 0 7 (0 /₁ 1) 103 103 0 (pos 5))
    && refuses 10 start (tell 0 7 (0 /₁ 1) 100 100 0 (pos 100000000))
    && refuses 11 additionals (tell 6 7 (6 /₁ 1) 100 100 1 (pos 100000000))
    && refuses 11 additionals (tell 1 7 (1 /₁ 1) 100 100 1 (pos 100000000))
    && refuses 12 full (seven 6 (6 /₁ 1) 100 100)
    && refuses 13 full (seven 1 (1 /₁ 1) 100 100)
    && refuses 14 full (seven 6 (6 /₁ 4) 100 100)

-- "nullification 1, 2, 15, 9; gate 1, 2"
abbrev nullification_meets_two : Bool
nullification_meets_two =
    answers unsound (cancel 0 1 102) 1
    && answers all_closed (cancel 0 0 102) 2
    && answers start (cancel 0 0 103) 15
    && answers start (cancel 0 1 103) 9
    && answers unsound gate 1
    && answers all_closed gate 2

-- "account total 1, 15, 16, 26; mark 1, 25, 15, 16; row 1, 25, 16; day figures 1, 15, 16"
abbrev question_meets_two : Bool
question_meets_two =
    gives (total_rules unsound 3 100 1) 1
    && gives (total_rules start 3 103 1) 15
    && gives (total_rules start 2 103 1) 16
    && gives (mark_rules unsound (0 /₁ 1) 0 100 1) 1
    && gives (mark_rules told100 (0 /₁ 2) 3 100 1) 25
    && gives (mark_rules told100 (0 /₁ 1) 2 103 1) 15
    && gives (mark_rules told100 (0 /₁ 1) 1 103 1) 16
    && gives (row_rules unsound (0 /₁ 1) 100 1) 1
    && gives (row_rules told100 (0 /₁ 2) 103 1) 25
    && gives (row_rules told100 (0 /₁ 1) 103 1) 16
    && gives (figures_rules unsound 3 100) 1
    && gives (figures_rules start 3 103) 15
    && gives (figures_rules start 2 103) 16

abbrev pub orders : List Bool
orders =
    the_order ∷ the_packed_order ∷ opening_meets_two ∷ notification_meets_two ∷ nullification_meets_two ∷ question_meets_two ∷ []
