-- Either way round, in the code's terms: what `write_spreadsheet` leaves is a valid file that holds the same entries.
use mathlib.Core.List.{List}
use mathlib.Core.Logic.{◌≢◌}
use mathlib.Core.Path.{◌≡◌, sym, ap, ◌∙◌, subst}
use Prim.Native.Nat.{ℕ, ◌≤◌}
use Rattle.std.specs.Prelude.{Result}
use contract.Lifetimes.{Lfts}
use denote.MutBor.{MutBor}
use lib.ListN.{length, take}
use Rattle.spreadsheets.specs.Structs.{entries_in}
use Rattle.spreadsheets.specs.Writing.{write_spreadsheet}
use Rattle.spreadsheets.specs.declared.Spreadsheet.{Spreadsheet}
use Rattle.spreadsheets.proofs.WritingRules.{ReadsBack, written-reads, never-24}
use Rattle.limits.specs.declared.refusals.Refusal.{Refusal}
use Rattle.spreadsheet_writing.specs.Structs.{spreadsheet_written}
use Rattle.fields.specs.Fronts.{written_as}
use Rattle.fields.specs.declared.WrittenBytes.{WrittenBytes}
use Rattle.spreadsheet_writing.proofs.write_spreadsheet.Reads as write-spreadsheet

-- THE ROUND TRIP, of what keeps the function's own promise; w is what C is given of the outcome
module _ (κs : Lfts 1) (x : Spreadsheet) (out left : MutBor (List ℕ)) (r : Result ℕ Refusal) (p : write-spreadsheet.Post κs (x, (out, tt)) r (x, (left, tt))) where
  abbrev w : WrittenBytes
  w = written_as r

  -- where the answer is 0, the bytes written are a valid file, hold the entries of x, and are no more than 711
  pub written_back : w.answer ≡ 0 → ReadsBack (entries_in x) (take w.length left.now)
  unfolding spreadsheet_written
  written_back e =
      let done : (write_spreadsheet (entries_in x) out.now).answer ≡ 0 = ap (λ (w : WrittenBytes). w.answer) (sym p.0) ∙ e in
      subst (ReadsBack (entries_in x)) (sym (λ i. take (p.0 i).length (p.1 i))) (written-reads (entries_in x) out.now done)

  -- a buffer of 711 bytes is never refused for its room
  pub room-enough : 711 ≤ length out.now → w.answer ≢ 24
  unfolding spreadsheet_written
  room-enough h e = never-24 (entries_in x) out.now h (ap (λ (w : WrittenBytes). w.answer) (sym p.0) ∙ e)
