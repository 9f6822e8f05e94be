-- Document 01, "The book": the setting, all that a call sees beside the ledger: the days and the clock, the accounts and the authorisations.
use Rattle.std.specs.Prelude.{Bool, List, ℕ, length}
use Rattle.words.specs.Tests.{◌<?◌, between}
use Rattle.meaning.specs.Time.{Time, with_gate_closed}
use Rattle.meaning.specs.Authorisations.{Authorisation, row_at}

pub record Setting : Type 0 where
  pub time : Time
  pub accounts : ℕ
  pub rows : List Authorisation

abbrev pub has_account : Setting → ℕ → Bool
has_account s account = account <? s.accounts

-- an authorisation number is known
abbrev pub known : Setting → ℕ → Bool
known s k = k <? length s.rows

-- its last day, and whether it is in force and whether it is expired on a day, by the day's number. Evergreen never expires.
abbrev pub last_day_of : Setting → ℕ → ℕ
last_day_of s k = (row_at s.rows k).last

abbrev pub in_force : Setting → ℕ → ℕ → Bool
in_force s k D = between (row_at s.rows k).first (last_day_of s k) D

abbrev pub expired : Setting → ℕ → ℕ → Bool
expired s k D = last_day_of s k <? D

-- the setting after a gate
abbrev pub after_gate : Setting → Setting
after_gate s = record { time = with_gate_closed s.time; accounts = s.accounts; rows = s.rows }
