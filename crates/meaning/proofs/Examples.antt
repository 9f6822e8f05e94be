-- Beside document 01's table: the sheet program's five messages, the two of its "Easy to get wrong" that the table does not show, and the story
-- that began it all.
use mathlib.Core.Path.{◌≡◌, refl}
use mathlib.Core.Bool.{Bool, true, ◌&&◌}
use mathlib.Core.List.{List, [], ◌∷◌}
use Prim.Native.Nat.{ℕ, suc}
use lib.IntN.{pos, neg_ℤ}
use Rattle.words.specs.Tests.{◌=?◌, sameℤ}
use Rattle.words.specs.Below.{every_below}
use Rattle.meaning.specs.Time.{evergreen}
use Rattle.meaning.specs.Ledgers.{contracts}
use Rattle.meaning.specs.Messages.{Entry}
use Rattle.meaning.specs.Books.{Book, opened_book}
use Rattle.meaning.specs.Calls.{Call, gate, refusal}
use Rattle.meaning.specs.History.{after}
use Rattle.meaning.specs.Totals.{sum_of, sold, bought}
use Rattle.meaning.specs.Bars.{seen_bar}
use Rattle.meaning.proofs.Opened as Opened
use Rattle.meaning.proofs.Stories.{◌/₁◌, entry, send, has, one_sided, agreed, alike}

-- ---- the sheet program: one day 100 of 48, accounts 0 and 1, one authorisation, 16 slots

abbrev sheet : Book contracts
sheet =
    opened_book contracts
    (record {
      first = 100;
      codes = 1 ∷ [];
      accounts = 2;
      rows = record { agent1 = 7; agent2 = 9; account1 = 0; account2 = 1; key = 500; first = 0; last = evergreen; type = 0 } ∷ [];
    })
    16

abbrev say : ℕ → ℕ → List (Entry contracts) → Call contracts
say agent key es = send 0 agent key (0 /₁ 1) 100 100 es

-- "agent 7 gives 5000 for period 1; agent 9 the same; agent 7 with key 501; a gate; agent 9 replaces with 6000 for period 1 and 10 for 2"
abbrev five : List (Call contracts)
five =
    say 7 500 (entry 1 (pos 5000) ∷ [])
    ∷ say 9 500 (entry 1 (pos 5000) ∷ [])
    ∷ say 7 501 (entry 1 (pos 5000) ∷ [])
    ∷ gate
    ∷ say 9 500 (entry 1 (pos 6000) ∷ entry 2 (pos 10) ∷ [])
    ∷ []

abbrev answers_to : Book contracts → List (Call contracts) → List ℕ
answers_to b [] = []
answers_to b (c ∷ cs) = refusal b c ∷ answers_to (after b (c ∷ [])) cs

-- "m 1 0, m 2 0, m 3 4, m 4 0, m 5 0"
pub the_answers : alike ◌=?◌ (answers_to sheet five) (0 ∷ 0 ∷ 4 ∷ 0 ∷ 0 ∷ []) ≡ true
unfolding Opened.opened
the_answers = refl

-- "t 0 100 1 5000, t 1 100 1 -5000", and every other period sums to zero
abbrev totals_right : Bool
totals_right =
    has (after sheet five) 0 100 1 (pos 5000)
    && has (after sheet five) 1 100 1 (neg_ℤ (pos 5000))
    && has (after sheet five) 0 100 2 (pos 0)
    && every_below 47 (λ p. sameℤ (sum_of (after sheet five) 0 0 (suc (suc p))) (pos 0) && sameℤ (sum_of (after sheet five) 1 0 (suc (suc p))) (pos 0))

pub the_totals : totals_right ≡ true
unfolding Opened.opened
the_totals = refl

-- ---- the traps that the table misses

-- after agent 7 alone the omitted period 2 stands at zero, and zero does not match nothing: OneSide, not Blank and not Agreed
pub zero_is_not_nothing : one_sided (seen_bar (after sheet (say 7 500 (entry 1 (pos 5000) ∷ []) ∷ [])) (0 /₁ 1) 1 100 2) (pos 0) ≡ true
unfolding Opened.opened
zero_is_not_nothing = refl

-- agent 7 gives 5000 for periods 1 and 2 and then replaces with period 1 alone: period 2 is zero, and not 5000 as before
pub omitted_is_zero : one_sided (seen_bar (after sheet (say 7 500 (entry 1 (pos 5000) ∷ entry 2 (pos 5000) ∷ []) ∷ say 7 500 (entry 1 (pos 5000) ∷ []) ∷ [])) (0 /₁ 1) 0 100 2) (pos 0) ≡ true
unfolding Opened.opened
omitted_is_zero = refl

-- ---- the user's own story: his client sits on side 2 and sells 5 MWh in period 35; agent 9 says so for him, and agent 7 for the other side

abbrev sale : Book contracts
sale = after sheet (say 9 500 (entry 35 (neg_ℤ (pos 5000)) ∷ []) ∷ say 7 500 (entry 35 (neg_ℤ (pos 5000)) ∷ []) ∷ [])

-- the client, account 1, sees it above the line and the other account below; totals and day figures say the same
abbrev right_way_up : Bool
right_way_up =
    agreed (seen_bar sale (0 /₁ 1) 1 100 35) (pos 5000)
    && agreed (seen_bar sale (0 /₁ 1) 0 100 35) (neg_ℤ (pos 5000))
    && has sale 1 100 35 (pos 5000)
    && has sale 0 100 35 (neg_ℤ (pos 5000))
    && sameℤ (sold sale 1 0) (pos 5000)
    && sameℤ (bought sale 1 0) (pos 0)
    && sameℤ (sold sale 0 0) (pos 0)
    && sameℤ (bought sale 0 0) (pos 5000)

pub client_on_side_two_sells : right_way_up ≡ true
unfolding Opened.opened
client_on_side_two_sells = refl
