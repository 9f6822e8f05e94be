-- Either way round, of what keeps the promises of `write_spreadsheet` and `read_spreadsheet`: reading what was written gives the same entries, and what
-- was read can be written.
use mathlib.Core.List.{List}
use mathlib.Core.Path.{◌≡◌, ap, ◌∙◌}
use Prim.Native.Nat.{ℕ, ◌≤◌}
use native.Mathlib.Omega.{arith}
use Rattle.std.specs.Prelude.{Result}
use contract.Lifetimes.{Lfts}
use denote.MutBor.{MutBor}
use lib.ListN.{length, take}
use lib.Seq.{sets}
use Rattle.laws.proofs.Bits.{Bytes}
use Rattle.laws.proofs.Stores.{take-front}
use Rattle.meaning.specs.Ledgers.{contracts}
use Rattle.meaning.specs.Messages.{Entry}
use Rattle.meaning.specs.PackedMessages.{Written}
use Rattle.spreadsheets.specs.Entries.{entries}
use Rattle.spreadsheets.specs.Structs.{entries_in, spreadsheet_for}
use Rattle.spreadsheets.specs.Writing.{written, write_spreadsheet}
use Rattle.spreadsheets.specs.declared.Spreadsheet.{Spreadsheet}
use Rattle.spreadsheets.proofs.EntriesIn.{entries-held}
use Rattle.spreadsheets.proofs.WritingRules.{reads-back, writing-done}
use Rattle.spreadsheet_reading.specs.Reading.{Reading}
use Rattle.spreadsheet_reading.specs.declared.SpreadsheetRead.{SpreadsheetRead}
use Rattle.spreadsheet_reading.proofs.Theorems.{done-valid, valid-done, done-holds, valid-writable}
use Rattle.limits.specs.declared.refusals.Refusal.{Refusal}
use Rattle.spreadsheet_writing.specs.Structs.{spreadsheet_written}
use Rattle.fields.specs.Fronts.{written_as}
use Rattle.fields.specs.declared.WrittenBytes.{WrittenBytes}
use Rattle.spreadsheet_writing.proofs.Back.{written_back}
use Rattle.spreadsheet_writing.proofs.write_spreadsheet.Reads as write-spreadsheet

-- what was written is read, by the length that writing gave: the same entries, with zero past their count
pub written-reads-back : (κs : Lfts 1) (x : Spreadsheet) (out left : MutBor (List ℕ)) (w : Result ℕ Refusal) → write-spreadsheet.Post κs (x, (out, tt)) w (x, (left, tt))
    → (written_as w).answer ≡ 0 → (r : SpreadsheetRead) → Reading (take (written_as w).length left.now) r → (r.answer ≡ 0) × (r.spreadsheet ≡ spreadsheet_for (entries_in x))
written-reads-back κs x out left w p e r reading =
    let s = take (written_as w).length left.now in
    let back = written_back κs x out left w p e in
    let done = (valid-done s r reading back.file).0 in
    (done, done-holds s r reading done ∙ ap spreadsheet_for back.same)

-- what was read is written, into 711 bytes and more, and never refused: the file as it is written of the same entries
pub read-is-written : (s : List ℕ) → Bytes s → (r : SpreadsheetRead) → Reading s r → r.answer ≡ 0
    → (κs : Lfts 1) (out left : MutBor (List ℕ)) (w : Result ℕ Refusal) → write-spreadsheet.Post κs (r.spreadsheet, (out, tt)) w (r.spreadsheet, (left, tt))
    → 711 ≤ length out.now → ((written_as w).answer ≡ 0) × (take (written_as w).length left.now ≡ written (entries s))
unfolding spreadsheet_written
read-is-written s bytes r reading e κs out left w p room =
    let es = entries s in
    let f = done-valid s r reading e in
    let all = valid-writable s bytes f in
    let fits : length (written es) ≤ length out.now = omega (arith, (reads-back es all).most) in
    let held : entries_in r.spreadsheet ≡ es = ap entries_in (done-holds s r reading e) ∙ entries-held es f.1 in
    let done : write_spreadsheet (entries_in r.spreadsheet) out.now ≡ record { answer = 0; length = length (written es); out = sets out.now 0 (written es) } =
    ap (λ (l : List (Entry contracts)). write_spreadsheet l out.now) held ∙ writing-done es out.now all fits in (
      ap (λ (x : WrittenBytes). x.answer) p.0 ∙ ap (λ (x : Written). x.answer) done,
      (λ i. take (p.0 i).length (p.1 i)) ∙ (λ i. take (done i).length (done i).out) ∙ take-front out.now (written es) fits,
    )
