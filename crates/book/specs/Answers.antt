-- What opening gives with an answer, which is 0 where it is accepted.
use Rattle.std.specs.Prelude.{List, ℕ, ℤ, Result, Ok, Err, length, replicate, if◌then◌else◌}
use Rattle.words.specs.Tests.{◌=?◌}
use Rattle.meaning.specs.Ledgers.{the_mark}
use Rattle.meaning.specs.Books as Meaning
use Rattle.meaning.specs.PackedMessages.{Reading}
use Rattle.fields.specs.declared.AtFront.{AtFront}
use Rattle.limits.specs.declared.refusals.Refusal.{Refusal}
use Rattle.limits.specs.Refusals.{number_of}
use Rattle.setups.specs.declared.Setup.{Setup}
use Rattle.setups.specs.Structs.{no_setup_struct, setup_for}
use Rattle.book.specs.declared.Book.{Book}
use Rattle.book.specs.declared.Opened.{Opened}
use Rattle.book.specs.declared.OpenedPacked.{OpenedPacked}

-- ---- opening: no gate closed, no identifier held, the mark in every place; with a refusal a book all zero, and the tables as they came

abbrev pub no_book : Book
no_book = record { setup = no_setup_struct; closed = 0 }

unfoldable pub opened : Setup → ℕ → Opened
opened s answer = record { answer = answer; book = if answer =? 0 then record { setup = s; closed = 0 } else no_book }

-- what C is given of an outcome, here and below. No two outcomes are seen as one struct: OpeningLaws.antt.
abbrev pub opened_seen : Result Book Refusal → Opened
opened_seen (Ok book) = record { answer = 0; book = book }
opened_seen (Err refusal) = record { answer = number_of refusal; book = no_book }

unfoldable pub held_opened : ℕ → List ℕ → List ℕ
held_opened answer held = if answer =? 0 then replicate (length held) 0 else held

unfoldable pub side_opened : ℕ → List ℤ → List ℤ
side_opened answer side = if answer =? 0 then replicate (length side) the_mark else side

-- from a packed setup: what reading refuses is not opened, and what it reads always is
unfoldable pub opened_packed : Reading Meaning.Setup → OpenedPacked
opened_packed read =
    record { answer = read.answer; length = read.length; book = (opened (setup_for read.read) read.answer).book }

abbrev pub opened_packed_seen : Result (AtFront Book) Refusal → OpenedPacked
opened_packed_seen (Ok front) = record { answer = 0; length = front.length; book = front.value }
opened_packed_seen (Err refusal) = record { answer = number_of refusal; length = 0; book = no_book }
