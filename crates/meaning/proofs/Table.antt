-- Document 01, "Table to prove": P1 to P13, each a test on the definitions, and one claim that all of them pass.
use mathlib.Core.Path.{◌≡◌, refl}
use mathlib.Core.Bool.{Bool, true, ◌&&◌}
use mathlib.Core.List.{[], ◌∷◌}
use Prim.Native.Nat.{ℕ, ◌+◌}
use lib.IntN.{ℤ, pos, neg_ℤ}
use lib.ListN.{replicate}
use Rattle.words.specs.Tests.{◌=?◌}
use Rattle.words.specs.Below.{every_below}
use Rattle.words.specs.Lists.{every}
use Rattle.meaning.specs.Time.{evergreen}
use Rattle.meaning.specs.Ledgers.{contracts}
use Rattle.meaning.specs.Books.{Setup, Book, opened_book}
use Rattle.meaning.specs.Calls.{Call, gate}
use Rattle.meaning.specs.History.{after}
use Rattle.meaning.specs.Bars.{seen_bar}
use Rattle.meaning.specs.Messages.{nullification}
use Rattle.meaning.specs.PackedMessages.{write_message}
use Rattle.meaning.specs.PackedMessages as Packed
use Rattle.meaning.proofs.Opened as Opened
use Rattle.meaning.proofs.Stories.{◌/₁◌, tell, cancel, answers, accepts, initial_in, has, disagreed, alike, nothing_in, shows, empty}

-- ---- the book of the table, with four slots

abbrev table_setup : Setup
table_setup =
    record {
      first = 100;
      codes = 1 ∷ 0 ∷ 2 ∷ [];
      accounts = 3;
      rows =
          record { agent1 = 7; agent2 = 9; account1 = 0; account2 = 1; key = 500; first = 0; last = evergreen; type = 0 }
          ∷ record { agent1 = 7; agent2 = 7; account1 = 1; account2 = 2; key = 600; first = 0; last = evergreen; type = 1 }
          ∷ record { agent1 = 7; agent2 = 9; account1 = 0; account2 = 1; key = 700; first = 0; last = 99; type = 0 }
          ∷ [];
    }

abbrev start : Book contracts
start = opened_book contracts table_setup 4

-- ---- the stories

-- agent 7, or 9, states period 1 of day 100 under 0/1
abbrev seven : ℤ → Call contracts
seven v = tell 0 7 (0 /₁ 1) 100 100 1 v

abbrev nine : ℤ → Call contracts
nine v = tell 0 9 (0 /₁ 1) 100 100 1 v

abbrev minus20 : ℕ → ℕ → Call contracts
minus20 first last = tell 1 7 (1 /₁ 1) first last 1 (neg_ℤ (pos 20))

abbrev after_p1 : Book contracts
after_p1 = after start (seven (pos 5000) ∷ [])

abbrev after_p2 : Book contracts
after_p2 = after after_p1 (nine (pos 5000) ∷ [])

abbrev after_p3 : Book contracts
after_p3 = after after_p1 (nine (pos 4999) ∷ [])

abbrev after_p5 : Book contracts
after_p5 = after start (minus20 100 evergreen ∷ [])

abbrev after_p6 : Book contracts
after_p6 = after after_p5 (minus20 101 101 ∷ [])

abbrev after_gate : Book contracts
after_gate = after after_p2 (gate ∷ [])

abbrev after_p9 : Book contracts
after_p9 = after after_gate (nine (pos 6000) ∷ [])

abbrev after_p12 : Book contracts
after_p12 = after after_p2 (cancel 1 0 100 ∷ [])

-- ---- the table

abbrev P1 : Bool
P1 =
    initial_in 0 start (seven (pos 5000))
    && every_below 3 (λ account. has after_p1 account 100 1 (pos 0))

abbrev P2 : Bool
P2 =
    accepts after_p1 (nine (pos 5000))
    && has after_p2 0 100 1 (pos 5000)
    && has after_p2 1 100 1 (neg_ℤ (pos 5000))

abbrev P3 : Bool
P3 =
    accepts after_p1 (nine (pos 4999))
    && has after_p3 0 100 1 (pos 0)
    && has after_p3 1 100 1 (pos 0)
    && disagreed (seen_bar after_p3 (0 /₁ 1) 1 100 1) (neg_ℤ (pos 5000)) (neg_ℤ (pos 4999))

abbrev P4 : Bool
P4 =
    accepts start (seven (pos 99999999))
    && accepts start (seven (neg_ℤ (pos 99999999)))
    && answers start (seven (pos 100000000)) 11

abbrev P5 : Bool
P5 =
    accepts start (minus20 100 evergreen)
    && every_below 3 (λ d. has after_p5 1 (100 + d) 1 (neg_ℤ (pos 20)) && has after_p5 2 (100 + d) 1 (pos 20))

abbrev P6 : Bool
P6 =
    accepts after_p5 (minus20 101 101)
    && every (λ side. empty after_p6 (1 /₁ 1) 102 side 50) (1 ∷ 2 ∷ [])
    && every (λ side. shows after_p6 (1 /₁ 1) 100 side (neg_ℤ (pos 20) ∷ replicate 47 (pos 0))) (1 ∷ 2 ∷ [])

abbrev P7 : Bool
P7 = answers after_p5 (tell 1 7 (1 /₁ 2) 101 101 1 (pos 5)) 13

abbrev P8 : Bool
P8 =
    accepts start (tell 0 7 (2 /₁ 5) 100 100 1 (pos 5))
    && answers start (tell 1 7 (2 /₁ 5) 100 100 1 (pos 5)) 6
    && answers start (tell 2 7 (2 /₁ 5) 100 100 1 (pos 5)) 5

abbrev P9 : Bool
P9 =
    accepts after_gate (nine (pos 6000))
    && has after_p9 0 100 1 (pos 5000)
    && has after_p9 1 100 1 (neg_ℤ (pos 5000))

abbrev P10 : Bool
P10 =
    answers start (tell 0 7 (0 /₁ 1) 101 101 47 (pos 5)) 10
    && accepts start (tell 0 7 (0 /₁ 1) 101 102 48 (pos 5))
    && answers start (tell 0 7 (0 /₁ 1) 101 102 49 (pos 5)) 10
    && accepts start (tell 0 7 (0 /₁ 1) 102 102 50 (pos 5))

abbrev P11 : Bool
P11 =
    answers start (tell 0 7 (0 /₁ 1) 100 99 1 (pos 5)) 7
    && answers start (tell 0 7 (0 /₁ 1) 99 99 1 (pos 5)) 8
    && answers start (tell 0 7 (0 /₁ 1) 103 103 1 (pos 5)) 9

abbrev P12 : Bool
P12 =
    accepts after_p2 (cancel 1 0 100)
    && nothing_in after_p12.ledger.side1
    && nothing_in after_p12.ledger.side2
    && answers after_p2 (cancel 0 0 100) 15

abbrev P13 : Bool
P13 =
    alike ◌=?◌ (write_message (Packed.message (nullification (record { account = 0; other = 1; first = 100 }))) (replicate 4 0)).out (0x80 ∷ 0x04 ∷ 0x01 ∷ 0x90 ∷ [])

pub the_table : every (λ p. p) (P1 ∷ P2 ∷ P3 ∷ P4 ∷ P5 ∷ P6 ∷ P7 ∷ P8 ∷ P9 ∷ P10 ∷ P11 ∷ P12 ∷ P13 ∷ []) ≡ true
unfolding Opened.opened
the_table = refl
