-- What writing answers, as the struct that C is given.
use Rattle.meaning.specs.PackedMessages.{Written}
use Rattle.fields.specs.declared.WrittenBytes.{WrittenBytes}

unfoldable pub message_written : Written → WrittenBytes
message_written w = record { answer = w.answer; length = w.length }
