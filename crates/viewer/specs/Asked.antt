-- The identifier that a question in C names, whose numbers have 32 bits.
use Rattle.std.specs.Prelude.{ℕ, if◌then◌else◌}
use Rattle.words.specs.Tests.{◌<?◌}
use Rattle.meaning.specs.Ledgers.{identifier_of}

-- Document 01: "An identifier is an originating authorisation number with a reference code", and a reference has 16 bits. One of more bits is no
-- reference code, and what it names is held by no book: here an identifier of authorisation 64, which is none ("1 to 64 authorisations", from 0 on).
unfoldable pub named : ℕ → ℕ → ℕ
named originator reference = if reference <? 65536 then identifier_of originator reference else identifier_of 64 0
