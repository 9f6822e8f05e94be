-- Words for our own table, which stands beside document 01's: its book, its calls, and tests of a chain of refusals. The rows write numbers as
-- the paper has them (65535, 48, -2147483648) and not by the names that the definitions give them: a test by its name cannot see one change.
use mathlib.Core.Bool.{Bool, false}
use mathlib.Core.List.{List, [], ◌∷◌}
use Prim.Native.Nat.{ℕ}
use lib.IntN.{pos}
use Rattle.std.specs.Prelude.{if◌then◌else◌}
use Rattle.words.specs.Tests.{◌=?◌}
use Rattle.words.specs.Rules.{Rule, answer}
use Rattle.meaning.specs.Time.{Time}
use Rattle.meaning.specs.Authorisations.{Authorisation}
use Rattle.meaning.specs.Ledgers.{contracts}
use Rattle.meaning.specs.Books.{Setup, Book, opened_book}
use Rattle.meaning.specs.Calls.{Call}
use Rattle.meaning.specs.History.{after}
use Rattle.meaning.proofs.Stories.{◌/₁◌, tell, alike}

-- ---- the book: the table's days and accounts, and three slots

-- agents, accounts, key, first and last day, type
abbrev pub grant : ℕ → ℕ → ℕ → ℕ → ℕ → ℕ → ℕ → ℕ → Authorisation
grant agent1 agent2 account1 account2 key first last type =
    record { agent1 = agent1; agent2 = agent2; account1 = account1; account2 = account2; key = key; first = first; last = last; type = type }

abbrev pub our_setup : Setup
our_setup =
    record {
      first = 100;
      codes = 1 ∷ 0 ∷ 2 ∷ [];
      accounts = 3;
      rows =
          grant 7 9 0 1 500 0 65535 0
          ∷ grant 7 7 1 2 600 0 65535 1  -- one agent, type replacement
          ∷ grant 7 9 0 1 700 0 101 0  -- as 0, and its last day is 101
          ∷ grant 7 9 1 0 800 0 101 0  -- the accounts of 0 crossed
          ∷ grant 7 9 0 2 900 0 101 0  -- another account 2
          ∷ grant 7 9 2 1 1000 0 101 0  -- another account 1
          ∷ grant 7 7 1 2 1100 0 65535 2  -- as 1, type additional
          ∷ grant 7 9 0 1 1200 101 65535 0  -- as 0, and its first day is 101
          ∷ [];
    }

abbrev pub start : Book contracts
start = opened_book contracts our_setup 3

-- a book with so many gates closed: day 101 is the current day from 48 on, day 102 from 94 on, and 144 are all
abbrev pub clock : ℕ → Book contracts → Book contracts
clock closed b =
    let t : Time = record { first = b.setting.time.first; codes = b.setting.time.codes; closed = closed } in
    record { setting = record { time = t; accounts = b.setting.accounts; rows = b.setting.rows }; ledger = b.ledger }

-- ---- the calls: agent 7, or 9, tells 5 kWh in period 1, under an authorisation and with its key

abbrev pub seven : ℕ → ℕ → ℕ → ℕ → Call contracts
seven number i first last = tell number 7 i first last 1 (pos 5)

abbrev pub nine : ℕ → ℕ → ℕ → ℕ → Call contracts
nine number i first last = tell number 9 i first last 1 (pos 5)

-- agent 7 has told 0/1 for day 100, or for day 102
abbrev pub told100 : Book contracts
told100 = after start (seven 0 (0 /₁ 1) 100 100 ∷ [])

abbrev pub told102 : Book contracts
told102 = after start (seven 0 (0 /₁ 1) 102 102 ∷ [])

-- agent 9 has told 0/1 for day 100
abbrev pub told_by_nine : Book contracts
told_by_nine = after start (nine 0 (0 /₁ 1) 100 100 ∷ [])

-- ---- a chain of refusals: its numbers, its answer, and one of its conditions

abbrev numbers : List Rule → List ℕ
numbers [] = []
numbers (r ∷ rs) = r.number ∷ numbers rs

abbrev pub in_order : List Rule → List ℕ → Bool
in_order rules ns = alike ◌=?◌ (numbers rules) ns

abbrev pub gives : List Rule → ℕ → Bool
gives rules number = answer rules =? number

-- the condition of a number is met, whatever comes before it
abbrev pub meets : List Rule → ℕ → Bool
meets [] number = false
meets (r ∷ rs) number = if r.number =? number then r.met else meets rs number
