-- The struct of what a spreadsheet holds: the entries in it, and the struct of entries, with zero past their count.
use Rattle.std.specs.Prelude.{List, [], ℕ, length, get_or}
use Rattle.words.specs.Lists.{build}
use Rattle.meaning.specs.Ledgers.{contracts}
use Rattle.meaning.specs.Messages as Meaning
use Rattle.messages.specs.Structs.{no_entry_meant, entry_for, entries_of}
use Rattle.spreadsheets.specs.declared.Spreadsheet.{Spreadsheet}

unfoldable pub entries_in : Spreadsheet → List (Meaning.Entry contracts)
entries_in x = entries_of x.count x.entries

unfoldable pub spreadsheet_for : List (Meaning.Entry contracts) → Spreadsheet
spreadsheet_for es = record { count = length es; entries = build 50 (λ (k : ℕ). entry_for (get_or es k no_entry_meant)) }

abbrev pub no_spreadsheet : Spreadsheet
no_spreadsheet = spreadsheet_for []
