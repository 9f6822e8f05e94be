-- What reading gives, in the words of a caller, of whatever keeps the promise of `read_spreadsheet`.
use mathlib.Core.Bool.{true}
use mathlib.Core.List.{List}
use mathlib.Core.Path.{◌≡◌, ◌∙◌}
use Prim.Native.Nat.{ℕ, ◌≤◌}
use native.Mathlib.Omega.{arith}
use lib.ListN.{length}
use borrow.Author.Tests.{eq-eqb, ne_eqb, le-leb}
use Rattle.laws.proofs.Bits.{Bytes}
use Rattle.laws.proofs.Cases.{both}
use Rattle.spreadsheets.specs.Entries.{entries}
use Rattle.spreadsheets.specs.Refusals.{Language, csv, table, numbers, valid, number, File, Judged, accepted, refused}
use Rattle.spreadsheets.specs.Structs.{spreadsheet_for, no_spreadsheet}
use Rattle.spreadsheets.proofs.Unique.{unique}
use Rattle.spreadsheets.proofs.WritingRules.{all_writable}
use Rattle.spreadsheet_reading.specs.declared.SpreadsheetRead.{SpreadsheetRead}
use Rattle.spreadsheet_reading.specs.Reading.{Reading}
use Rattle.spreadsheet_reading.proofs.Walk.{read-writable}

number-least : (l : Language) → 29 ≤ number l
number-least csv = omega arith
number-least table = omega arith
number-least numbers = omega arith
number-least valid = omega arith

judged-valid : (s : List ℕ) (n p : ℕ) → Judged s n p → n ≡ 0 → File valid s
judged-valid s n p (accepted f) e = f
judged-valid s n p (refused l place r) e = absurd (omega (arith, number-least l))

module _ (s : List ℕ) (r : SpreadsheetRead) (reading : Reading s r) where
  -- it is done exactly where the bytes are a valid file ..
  pub done-valid : r.answer ≡ 0 → File valid s
  done-valid e = judged-valid s r.answer r.place reading.judged e

  pub valid-done : File valid s → (r.answer ≡ 0) × (r.place ≡ length s)
  valid-done f = unique s r.answer 0 r.place (length s) reading.judged (accepted f)

  -- .. and then holds its entries; with a refusal none
  pub done-holds : r.answer ≡ 0 → r.spreadsheet ≡ spreadsheet_for (entries s)
  done-holds e = reading.holds ∙ rw (eq-eqb r.answer 0 e)

  pub refused-holds-none : (r.answer ≡ 0 → ⊥) → r.spreadsheet ≡ no_spreadsheet
  refused-holds-none n = reading.holds ∙ rw (ne_eqb r.answer 0 n)

-- what a valid file holds can be written
pub valid-writable : (s : List ℕ) → Bytes s → File valid s → all_writable (entries s) ≡ true
valid-writable s bytes f = both (le-leb (length (entries s)) 50 f.1) (read-writable s bytes f)
