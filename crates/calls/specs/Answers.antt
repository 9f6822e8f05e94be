-- What the calls on a book give with an answer, which is 0 where the call is accepted, and what they leave.
use Rattle.std.specs.Prelude.{ℕ, ◌+◌, Option, Some, None, Result, Ok, Err, length, if◌then◌else◌}
use Rattle.std.specs.Option.{unwrap_or}
use Rattle.words.specs.Tests.{◌=?◌}
use Rattle.words.specs.Runs.{step}
use Rattle.words.specs.Rules.{answer, place}
use Rattle.meaning.specs.Time.{every_gate_closed}
use Rattle.meaning.specs.Ledgers.{contracts}
use Rattle.meaning.specs.Books as Meaning
use Rattle.meaning.specs.Notifications as Notifications
use Rattle.meaning.specs.Calls.{Call, accepted, act}
use Rattle.meaning.specs.History.{event, after}
use Rattle.meaning.specs.PackedMessages.{Packed}
use Rattle.meaning.specs.PackedCalls as PackedCalls
use Rattle.meaning.specs.PackedCalls.{calls_of, message_rules, kind_given, slot_given, Step, Run}
use Rattle.limits.specs.declared.refusals.Refusal.{Refusal}
use Rattle.limits.specs.Refusals.{number_of}
use Rattle.limits.specs.Kinds.{number_of_kind}
use Rattle.fields.specs.declared.AtFront.{AtFront}
use Rattle.message_checks.specs.declared.Fault.{Fault}
use Rattle.message_checks.specs.Checks.{outcome_told}
use Rattle.book.specs.declared.Book.{Book}
use Rattle.book.specs.Structs.{time_in}
use Rattle.calls.specs.declared.Gated.{Gated}
use Rattle.calls.specs.declared.Notified.{Notified}
use Rattle.calls.specs.declared.Applied.{Applied}
use Rattle.calls.specs.declared.Accepted.{Accepted}
use Rattle.calls.specs.declared.Done.{Done}
use Rattle.calls.specs.declared.packed.Stepped.{Stepped}
use Rattle.calls.specs.declared.Run as Ran
use Rattle.calls.specs.declared.AppliedAll.{AppliedAll}

-- ---- a call as meaning has it: what an accepted one makes of the book; a refused one changes nothing

abbrev pub after_call : Meaning.Book contracts → Call contracts → Meaning.Book contracts
after_call b c = step accepted act event b c

abbrev pub after_message : Meaning.Book contracts → Packed → Meaning.Book contracts
after_message b m = after b (calls_of m)

-- the book by value, its setup as it came and the clock as meaning has it
abbrev pub book_at : Book → Meaning.Book contracts → Book
book_at b whole = record { setup = b.setup; closed = whole.setting.time.closed }

-- ---- closing a gate: one more is closed, and with a refusal the book is as it came

-- of a book known to be sound
unfoldable pub next_answer : Book → ℕ
next_answer b = if every_gate_closed (time_in b) then 2 else 0

unfoldable pub one_closed : Book → Book
one_closed b = record { setup = b.setup; closed = b.closed + 1 }

unfoldable pub gated : Book → ℕ → Gated
gated b answer = record { answer = answer; book = if answer =? 0 then one_closed b else b }

-- what C is given of an outcome (`gated_seen`, `notified_seen`, `applied_seen`, `ran_seen`): with a refusal its number, and the book as it came. No two
-- outcomes are seen as one struct (proofs/Seen.antt).
abbrev pub gated_seen : Book → Result Book Refusal → Gated
gated_seen before (Ok book) = record { answer = 0; book = book }
gated_seen before (Err refusal) = record { answer = number_of refusal; book = before }

-- ---- a notification

abbrev pub notified_of : Notifications.Notified → Notified
notified_of r = record { answer = r.answer; kind = r.kind; slot = r.slot; place = r.place }

abbrev pub notified_seen : Result Accepted Fault → Notified
notified_seen (Ok accepted) = record { answer = 0; kind = number_of_kind accepted.kind; slot = accepted.slot; place = 0 }
notified_seen (Err fault) = record { answer = number_of fault.refusal; kind = 0; slot = 0; place = fault.place }

-- of an accepted message: what is told of a notification, and 0 of any other
abbrev pub kind_told : Option Accepted → ℕ
kind_told None = 0
kind_told (Some accepted) = number_of_kind accepted.kind

abbrev pub slot_told : Option Accepted → ℕ
slot_told None = 0
slot_told (Some accepted) = accepted.slot

-- ---- packed messages

-- what a message did, in numbers
pub record MessageDone : Type 0 where
  pub answer : ℕ
  pub place : ℕ
  pub kind : ℕ
  pub slot : ℕ
  pub book : Book

abbrev pub message_done : Book → Meaning.Book contracts → Packed → MessageDone
message_done b before m =
    record {
      answer = answer (message_rules before m);
      place = place (message_rules before m);
      kind = kind_given before m;
      slot = slot_given before m;
      book = book_at b (after_message before m);
    }

abbrev pub done_seen : Book → Result Done Fault → MessageDone
done_seen before (Ok done) = record { answer = 0; place = 0; kind = kind_told done.notification; slot = slot_told done.notification; book = done.book }
done_seen before (Err fault) = record { answer = number_of fault.refusal; place = fault.place; kind = 0; slot = 0; book = before }

abbrev pub applied_of : Book → PackedCalls.Applied → Applied
applied_of b a = record { answer = a.answer; kind = a.kind; slot = a.slot; place = a.place; length = a.length; book = book_at b a.book }

abbrev pub applied_seen : Book → Result (AtFront Done) Fault → Applied
applied_seen before (Ok front) =
    record { answer = 0; kind = kind_told front.value.notification; slot = slot_told front.value.notification; place = 0; length = front.length; book = front.value.book }
applied_seen before (Err fault) = record { answer = number_of fault.refusal; kind = 0; slot = 0; place = fault.place; length = 0; book = before }

-- a step of a run, in numbers: the length is 0 exactly where the bytes are unreadable
pub record StepDone : Type 0 where
  pub answer : ℕ
  pub place : ℕ
  pub length : ℕ
  pub book : Book

abbrev pub stepped_seen : Stepped → StepDone
stepped_seen s =
    record { answer = (outcome_told s.told).answer; place = (outcome_told s.told).place; length = unwrap_or s.taken 0; book = s.book }

abbrev pub stepped_of : Book → Step → StepDone
stepped_of b s = record { answer = s.outcome.answer; place = s.outcome.place; length = s.length; book = book_at b s.book }

-- a run with its answer
abbrev pub ran_of : Book → ℕ → Run → AppliedAll
ran_of b answer run = record { answer = answer; done = length run.outcomes; used = run.used; book = book_at b run.book }

abbrev pub ran_seen : Book → Result Ran.Run Refusal → AppliedAll
ran_seen before (Ok run) = record { answer = 0; done = run.done; used = run.used; book = run.book }
ran_seen before (Err refusal) = record { answer = number_of refusal; done = 0; used = 0; book = before }
