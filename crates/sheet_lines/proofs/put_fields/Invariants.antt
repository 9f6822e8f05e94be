-- The numbers left, written from where the loop stands, make the whole.
use Rattle.std.proofs.Common.{◌≡◌, ◌+◌, length, drop}
use lib.Seq.{sets}
use Rattle.meaning.specs.SheetLines.{fields}
use Rattle.sheet_lines.proofs.put_fields.Given as goal

abbrev pub invariant-loop-number : goal.invariant-loop-number
invariant-loop-number l =
    record {
      place : l.place + length (fields (drop l.number-index l.numbers)) ≡ l.at + length (fields l.numbers);
      buffer : sets l.out l.place (fields (drop l.number-index l.numbers)) ≡ sets l.initial.out l.at (fields l.numbers);
    }
