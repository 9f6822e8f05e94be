-- Document 01, "The book" and "Answer numbers": the setup and its rules, the book, and opening (17, 18).
use Rattle.std.specs.Prelude.{Bool, not, ◌&&◌, ◌||◌, List, ℕ, ◌+◌, length}
use Rattle.words.specs.Tests.{◌<?◌, ◌=?◌, between}
use Rattle.words.specs.Lists.{any}
use Rattle.words.specs.Rules.{Rule, ◌when◌else◌, done}
use Rattle.meaning.specs.Time.{evergreen}
use Rattle.meaning.specs.Authorisations.{Authorisation, row_wrong}
use Rattle.meaning.specs.Settings.{Setting}
use Rattle.meaning.specs.Ledgers.{Sort, places, Ledger, empty_ledger}

pub record Setup : Type 0 where
  pub first : ℕ
  pub codes : List ℕ
  pub accounts : ℕ
  pub rows : List Authorisation

-- ---- the setup rules

-- "1 to 8 consecutive settlement days", "2 to 64 energy accounts, 1 to 64 authorisations"
unfoldable pub counts_wrong : Setup → Bool
counts_wrong s =
    not (between 1 8 (length s.codes) && between 2 64 s.accounts && between 1 64 (length s.rows))

-- "Day numbers are 0 to 65,534": the last day, first + days - 1, is below evergreen.
unfoldable pub last_day_wrong : Setup → Bool
last_day_wrong s = evergreen <? s.first + length s.codes

unfoldable pub code_wrong : Setup → Bool
code_wrong s = any (λ (code : ℕ). 2 <? code) s.codes

-- "1 to 256 identifiers", and "slots times days times 50 volumes" lent for each side
unfoldable pub lent_wrong : Setup → ℕ → ℕ → ℕ → Bool
lent_wrong s slots lent1 lent2 =
    not (between 1 256 slots && lent1 =? places slots (length s.codes) && lent2 =? places slots (length s.codes))

unfoldable pub some_row_wrong : Setup → Bool
some_row_wrong s = any (row_wrong s.accounts) s.rows

unfoldable pub opening_rules : Setup → ℕ → ℕ → ℕ → List Rule
opening_rules s slots lent1 lent2 =
    17 when counts_wrong s || last_day_wrong s || lent_wrong s slots lent1 lent2 || code_wrong s else
    18 when some_row_wrong s else
    done

-- ---- the book

-- a setting as it is set up, with no gate closed
abbrev pub opened_setting : Setup → Setting
opened_setting s =
    record { time = record { first = s.first; codes = s.codes; closed = 0 }; accounts = s.accounts; rows = s.rows }

-- what a setting was set up with
abbrev pub setup_of : Setting → Setup
setup_of s = record { first = s.time.first; codes = s.time.codes; accounts = s.accounts; rows = s.rows }

module _ (K : Sort) where
  pub record Book : Type 0 where
    pub setting : Setting
    pub ledger : Ledger K

  -- "Opening closes no gate, holds no identifier and sets every place to the mark."
  unfoldable pub opened_book : Setup → ℕ → Book
  opened_book s slots = record { setting = opened_setting s; ledger = empty_ledger K slots (length s.codes) }
