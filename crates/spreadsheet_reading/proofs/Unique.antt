-- No two different results keep the promise of reading.
use mathlib.Core.List.{List, []}
use mathlib.Core.Path.{◌≡◌, sym, ap, ◌∙◌}
use Prim.Native.Nat.{ℕ}
use lib.ListN.{length}
use Rattle.std.specs.Prelude.{Result, Ok, Err, if◌then◌else◌}
use Rattle.words.specs.Tests.{◌=?◌}
use Rattle.limits.proofs.AnswerNumbers.{never-done, same-number}
use Rattle.laws.proofs.Promises.{OneResult}
use Rattle.spreadsheets.specs.Entries.{entries}
use Rattle.spreadsheets.specs.Structs.{spreadsheet_for}
use Rattle.spreadsheets.specs.declared.Spreadsheet.{Spreadsheet}
use Rattle.spreadsheets.proofs.Unique.{unique}
use Rattle.spreadsheet_reading.specs.declared.SpreadsheetRead.{SpreadsheetRead}
use Rattle.spreadsheet_reading.specs.declared.Unreadable.{Unreadable}
use Rattle.spreadsheet_reading.specs.Reading.{Reading, as_spreadsheet_read}
use Rattle.spreadsheet_reading.proofs.read_spreadsheet.Reads as read-spreadsheet

pub one-reading : (s : List ℕ) (r r' : SpreadsheetRead) → Reading s r → Reading s r' → r ≡ r'
one-reading s r r' a b =
    let (n, p) = unique s r.answer r'.answer r.place r'.place a.judged b.judged in
    let h : r.spreadsheet ≡ r'.spreadsheet =
    a.holds ∙ (λ i. spreadsheet_for (if n i =? 0 then entries s else [])) ∙ sym b.holds in
    λ i. record { answer = n i; place = p i; spreadsheet = h i }

abbrev number : SpreadsheetRead → ℕ
number x = x.answer

-- what C is given of so many bytes tells the outcome
read-tells : (n : ℕ) (r r' : Result Spreadsheet Unreadable) → as_spreadsheet_read n r ≡ as_spreadsheet_read n r' → r ≡ r'
read-tells n (Ok a) (Ok b) e = ap (λ (x : SpreadsheetRead). Ok x.spreadsheet) e
read-tells n (Ok a) (Err u) e = never-done u.refusal (sym (ap number e))
read-tells n (Err u) (Ok b) e = never-done u.refusal (ap number e)
read-tells n (Err u) (Err v) e =
    let w = same-number u.refusal v.refusal (ap number e) in
    let p = ap (λ (x : SpreadsheetRead). x.place) e in
    λ i. Err (record { refusal = w i; place = p i })

pub unique-read-spreadsheet : OneResult read-spreadsheet.Post
unique-read-spreadsheet κs a r r' s s' p q =
    let bytes = a.0.now in
    read-tells (length bytes) r r' (one-reading bytes (as_spreadsheet_read (length bytes) r) (as_spreadsheet_read (length bytes) r') p q)
