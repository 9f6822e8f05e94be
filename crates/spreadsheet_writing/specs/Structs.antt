-- What writing answers, as the struct that C is given.
use Rattle.meaning.specs.PackedMessages.{Written}
use Rattle.fields.specs.declared.WrittenBytes.{WrittenBytes}

unfoldable pub spreadsheet_written : Written → WrittenBytes
spreadsheet_written w = record { answer = w.answer; length = w.length }
