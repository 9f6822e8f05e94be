-- Our table, document 01's "The book": the bounds of a setup (17), a wrong row (18), the mark, and a sound book clause by clause (1).
use mathlib.Core.Bool.{Bool, ◌&&◌}
use mathlib.Core.List.{List, [], ◌∷◌}
use Prim.Native.Nat.{ℕ, ◌*◌}
use lib.IntN.{ℤ, pos, neg_ℤ}
use lib.ListN.{length, replicate, set}
use Rattle.words.specs.Tests.{◌=?◌, sameℤ}
use Rattle.words.specs.Lists.{every}
use Rattle.meaning.specs.Time.{periods_of_code}
use Rattle.meaning.specs.Authorisations.{Authorisation}
use Rattle.meaning.specs.Ledgers.{contracts}
use Rattle.meaning.specs.Books.{Setup, opening_rules, Book}
use Rattle.meaning.specs.Calls.{gate}
use Rattle.meaning.proofs.Stories.{answers, alike}
use Rattle.meaning.proofs.OurBook.{grant, start, gives}

-- so many days of 48, accounts, and authorisations
abbrev sized : ℕ → ℕ → ℕ → Setup
sized days accounts rows =
    record { first = 100; codes = replicate days 1; accounts = accounts; rows = replicate rows (grant 7 9 0 1 500 0 65535 0) }

-- "A book covers 1 to 8 consecutive settlement days .., 2 to 64 energy accounts, 1 to 64 authorisations and 1 to 256 identifiers."
abbrev the_counts : Bool
the_counts =
    let opens : ℕ → ℕ → ℕ → ℕ → ℕ → Bool = λ d x n slots number. gives (opening_rules (sized d x n) slots (slots * d * 50) (slots * d * 50)) number in
    opens 1 2 1 1 0
    && opens 8 64 64 256 0
    && opens 0 2 1 1 17
    && opens 9 2 1 1 17
    && opens 1 1 1 1 17
    && opens 1 65 1 1 17
    && opens 1 2 0 1 17
    && opens 1 2 65 1 17
    && opens 1 2 1 0 17
    && opens 1 2 1 257 17

-- "Each side has its own lent table, slots times days times 50 volumes"
abbrev the_lent : Bool
the_lent =
    gives (opening_rules (sized 2 2 1) 3 300 300) 0
    && gives (opening_rules (sized 2 2 1) 3 299 300) 17
    && gives (opening_rules (sized 2 2 1) 3 301 300) 17
    && gives (opening_rules (sized 2 2 1) 3 300 299) 17
    && gives (opening_rules (sized 2 2 1) 3 300 301) 17

-- one day with its code, two accounts and one authorisation
abbrev one_day : ℕ → ℕ → Authorisation → Setup
one_day first code a = record { first = first; codes = code ∷ []; accounts = 2; rows = a ∷ [] }

-- "Day numbers are 0 to 65,534 ..; 65,535 as an end day means evergreen (no end) and is never a start that can be accepted."
abbrev the_last_day : Bool
the_last_day =
    let opens : ℕ → ℕ → ℕ → Bool = λ first from number. gives (opening_rules (one_day first 1 (grant 7 9 0 1 500 from 65535 0)) 1 50 50) number in
    opens 65534 0 0 && opens 65535 0 17 && opens 100 65534 0 && opens 100 65535 18

-- "per day a code of 2 bits (0, 1, 2 for 46, 48, 50)"; code 3 gives 17, and its periods are none
abbrev the_codes : Bool
the_codes =
    alike ◌=?◌ (periods_of_code 0 ∷ periods_of_code 1 ∷ periods_of_code 2 ∷ periods_of_code 3 ∷ []) (46 ∷ 48 ∷ 50 ∷ 0 ∷ [])
    && gives (opening_rules (one_day 100 2 (grant 7 9 0 1 500 0 65535 0)) 1 50 50) 0
    && gives (opening_rules (one_day 100 3 (grant 7 9 0 1 500 0 65535 0)) 1 50 50) 17

-- "A row is wrong if an account is out of the book, the two are equal, first is 65,535, last is before first, or type is above 2."
abbrev the_wrong_rows : Bool
the_wrong_rows =
    let opens : Authorisation → ℕ → Bool = λ a number. gives (opening_rules (one_day 100 1 a) 1 50 50) number in
    opens (grant 7 9 1 0 500 9 9 2) 0
    && opens (grant 7 9 2 0 500 9 9 2) 18
    && opens (grant 7 9 0 2 500 9 9 2) 18
    && opens (grant 7 9 1 1 500 9 9 2) 18
    && opens (grant 7 9 1 0 500 9 8 2) 18
    && opens (grant 7 9 1 0 500 9 9 3) 18

-- "the mark -2,147,483,648 means nothing stands"; "Opening closes no gate, holds no identifier and sets every place to the mark."
abbrev the_opened : Bool
the_opened =
    let marked : List ℤ → Bool = λ vs. length vs =? 450 && every (sameℤ (neg_ℤ (pos 2147483648))) vs in
    start.setting.time.closed =? 0
    && alike ◌=?◌ start.ledger.held (0 ∷ 0 ∷ 0 ∷ [])
    && marked start.ledger.side1
    && marked start.ledger.side2

-- two slots with their entries of `held` (one more than the identifier, 0 unheld), one day of 46 periods, one authorisation, and one volume at a
-- place of side 1, or of side 2
abbrev book : List ℕ → List ℤ → List ℤ → Book contracts
book held side1 side2 =
    record {
      setting = record { time = record { first = 100; codes = 0 ∷ []; closed = 0 }; accounts = 2; rows = grant 7 9 0 1 500 0 65535 0 ∷ [] };
      ledger = record { held = held; side1 = side1; side2 = side2 };
    }

-- "held identifiers differ and name known originators; each volume is in range or the mark; unheld slots and places past a day's length hold the
-- mark": place 45 is period 46, place 50 the second slot's period 1
abbrev the_sound_book : Bool
the_sound_book =
    let blank : List ℤ = replicate 100 (neg_ℤ (pos 2147483648)) in
    let either : List ℕ → ℕ → ℤ → ℕ → Bool =
    λ held place v number. answers (book held (set blank place v) blank) gate number && answers (book held blank (set blank place v)) gate number in
    either (1 ∷ 65536 ∷ []) 45 (pos 99999999) 0
    && either (0 ∷ 2 ∷ []) 95 (neg_ℤ (pos 99999999)) 0
    && either (2 ∷ 2 ∷ []) 45 (pos 5) 1
    && either (1 ∷ 65537 ∷ []) 45 (pos 5) 1
    && either (1 ∷ 2 ∷ []) 45 (pos 100000000) 1
    && either (1 ∷ 2 ∷ []) 45 (neg_ℤ (pos 100000000)) 1
    && either (1 ∷ 2 ∷ []) 46 (pos 5) 1
    && either (1 ∷ 0 ∷ []) 50 (pos 5) 1
    && either (0 ∷ 2 ∷ []) 45 (pos 5) 1

abbrev pub setups : List Bool
setups = the_counts ∷ the_lent ∷ the_last_day ∷ the_codes ∷ the_wrong_rows ∷ the_opened ∷ the_sound_book ∷ []
