-- Checked setups by computation: boundaries from both sides, and setups that meet a refusal and the next.
use mathlib.Core.Bool.{Bool, true, ◌&&◌}
use mathlib.Core.List.{List, [], ◌∷◌}
use mathlib.Core.Path.{◌≡◌, refl}
use Prim.Native.Nat.{ℕ, ◌*◌}
use lib.ListN.{length}
use Rattle.words.specs.Tests.{◌=?◌}
use Rattle.words.specs.Rules.{answer}
use Rattle.meaning.specs.Authorisations.{Authorisation}
use Rattle.meaning.specs.Books.{Setup}
use Rattle.meaning.proofs.Opened as Meaning
use Rattle.calendar.specs.Calendar as Calendar
use Rattle.calendar.specs.Calendar.{some_day_outside}
use Rattle.checked_setups.specs.Checked.{some_code_disagrees, calendar_rules, checked_opening_rules, checked_reading_rules}

-- days from a first one on with these codes, two accounts, and one authorisation between them until this day
abbrev from : ℕ → List ℕ → ℕ → Setup
from first codes last =
    let row : Authorisation = record { agent1 = 7; agent2 = 9; account1 = 0; account2 = 1; key = 500; first = 50; last = last; type = 0 } in
    record { first = first; codes = codes; accounts = 2; rows = row ∷ [] }

-- opened with one slot
abbrev opens : ℕ → List ℕ → ℕ → ℕ → Bool
opens first codes last number = let room = length codes * 50 in answer (checked_opening_rules (from first codes last) 1 room room) =? number

-- "day 85 is the first short day, day 302 the first long one"; the desk "once typed a plain day for October"
abbrev the_codes : Bool
the_codes =
    opens 84 (1 ∷ 0 ∷ 1 ∷ []) 65535 0
    && opens 301 (1 ∷ 2 ∷ 1 ∷ []) 65535 0
    && opens 302 (1 ∷ []) 65535 28
    && opens 302 (0 ∷ []) 65535 28
    && opens 85 (1 ∷ []) 65535 28
    && opens 84 (0 ∷ []) 65535 28
    && opens 299 (1 ∷ 1 ∷ 1 ∷ 1 ∷ 1 ∷ 1 ∷ 1 ∷ 1 ∷ []) 65535 28

-- "27 day or date not in 2000 to 2099"; an authorisation may end after 2099
abbrev the_days : Bool
the_days =
    opens 36524 (1 ∷ []) 65535 0
    && opens 36524 (1 ∷ []) 40000 0
    && opens 36525 (1 ∷ []) 65535 27
    && opens 36523 (1 ∷ 1 ∷ []) 65535 0
    && opens 36524 (1 ∷ 1 ∷ []) 65535 27

-- 17 before 27 and 28, 18 before both; 27 of the second day before 28 of the first
abbrev the_order : Bool
the_order =
    opens 65535 (1 ∷ []) 65535 17
    && opens 302 (3 ∷ []) 65535 17
    && opens 36525 (1 ∷ []) 49 18
    && opens 302 (1 ∷ []) 49 18
    && opens 36524 (0 ∷ 1 ∷ []) 65535 27

-- the same setup packed, each without and with a padding bit: day 302 with code 2 and with code 1, and day 36,525; then code 3, and a byte too few
abbrev reads : List ℕ → ℕ → Bool
reads bytes number = answer (checked_reading_rules bytes 1 50 50) =? number

abbrev the_packed : Bool
the_packed =
    reads (1 ∷ 46 ∷ 16 ∷ 64 ∷ 96 ∷ 112 ∷ 144 ∷ 1 ∷ 1 ∷ 244 ∷ 0 ∷ 50 ∷ 255 ∷ 255 ∷ 0 ∷ []) 0
    && reads (1 ∷ 46 ∷ 16 ∷ 64 ∷ 96 ∷ 112 ∷ 144 ∷ 1 ∷ 1 ∷ 244 ∷ 0 ∷ 50 ∷ 255 ∷ 255 ∷ 1 ∷ []) 22
    && reads (1 ∷ 46 ∷ 16 ∷ 64 ∷ 80 ∷ 112 ∷ 144 ∷ 1 ∷ 1 ∷ 244 ∷ 0 ∷ 50 ∷ 255 ∷ 255 ∷ 0 ∷ []) 28
    && reads (1 ∷ 46 ∷ 16 ∷ 64 ∷ 80 ∷ 112 ∷ 144 ∷ 1 ∷ 1 ∷ 244 ∷ 0 ∷ 50 ∷ 255 ∷ 255 ∷ 1 ∷ []) 28
    && reads (142 ∷ 173 ∷ 16 ∷ 64 ∷ 80 ∷ 112 ∷ 144 ∷ 1 ∷ 1 ∷ 244 ∷ 0 ∷ 50 ∷ 255 ∷ 255 ∷ 0 ∷ []) 27
    && reads (142 ∷ 173 ∷ 16 ∷ 64 ∷ 80 ∷ 112 ∷ 144 ∷ 1 ∷ 1 ∷ 244 ∷ 0 ∷ 50 ∷ 255 ∷ 255 ∷ 1 ∷ []) 27
    && reads (1 ∷ 46 ∷ 16 ∷ 64 ∷ 112 ∷ 112 ∷ 144 ∷ 1 ∷ 1 ∷ 244 ∷ 0 ∷ 50 ∷ 255 ∷ 255 ∷ 1 ∷ []) 17
    && reads (1 ∷ 46 ∷ 16 ∷ 64 ∷ 80 ∷ 112 ∷ 144 ∷ 1 ∷ 1 ∷ 244 ∷ 0 ∷ 50 ∷ 255 ∷ 255 ∷ []) 19

pub our_checks : the_codes && (the_days && (the_order && the_packed)) ≡ true
unfolding Meaning.opened Calendar.opened some_day_outside some_code_disagrees calendar_rules checked_opening_rules checked_reading_rules
our_checks = refl
