-- A packed message done to a book, and a run of packed messages done one after the other ("Bytes after a message belong to the next").
use Rattle.std.specs.Prelude.{List, [], ◌∷◌, ◌++◌, map, ℕ, zero, suc, ◌+◌, length, drop, if◌then◌else◌}
use Rattle.words.specs.Tests.{◌<?◌, ◌=?◌}
use Rattle.words.specs.Rules.{Rule, ◌when◌else◌, done, answer, Outcome, outcome, placeless}
use Rattle.meaning.specs.Ledgers.{contracts}
use Rattle.meaning.specs.Messages.{notification, nullification}
use Rattle.meaning.specs.Books.{Book}
use Rattle.meaning.specs.Soundness.{sound}
use Rattle.meaning.specs.Refusals.{asked}
use Rattle.meaning.specs.Notifications.{notified}
use Rattle.meaning.specs.Calls as Calls
use Rattle.meaning.specs.Calls.{Call, rules_for}
use Rattle.meaning.specs.History.{after}
use Rattle.meaning.specs.PackedMessages.{Packed, gate, message, other_kind, reading_rules, read_message}

-- the call that a message makes; one of another kind makes none
unfoldable pub calls_of : Packed → List (Call contracts)
calls_of gate = Calls.gate ∷ []
calls_of (message m) = Calls.message m ∷ []
calls_of (other_kind k) = []

-- the refusals that a book has for it, in their order: its kind's own; for a kind that no call has 20, "message kind 3", and 23 where the kind does not
-- fit its field of 2 bits
unfoldable pub message_rules : Book contracts → Packed → List Rule
message_rules b gate = rules_for b Calls.gate
message_rules b (message m) = rules_for b (Calls.message m)
message_rules b (other_kind k) =
    asked b (
    20 when k =? 0 else
    23 when 0 <? k else
    done)

-- "The answer gives kind and slot": those of a notification; zero for every other message, and with a refusal
unfoldable pub kind_given : Book contracts → Packed → ℕ
kind_given b gate = 0
kind_given b (message (notification n)) = (notified b n).kind
kind_given b (message (nullification x)) = 0
kind_given b (other_kind k) = 0

unfoldable pub slot_given : Book contracts → Packed → ℕ
slot_given b gate = 0
slot_given b (message (notification n)) = (notified b n).slot
slot_given b (message (nullification x)) = 0
slot_given b (other_kind k) = 0

-- ---- one packed message

-- 1 comes first, as in every order on a book; then reading's refusals, and then those that the book has for what was read.
unfoldable pub apply_rules : Book contracts → List ℕ → List Rule
apply_rules b bytes = asked b (reading_rules bytes ++ message_rules b (read_message bytes).read)

pub record Applied : Type 0 where
  pub answer : ℕ
  pub place : ℕ
  pub kind : ℕ
  pub slot : ℕ
  pub length : ℕ
  pub book : Book contracts

-- "A refusal leaves all tables .. and the clock unchanged; its other results are zero", but for the place that it carries
abbrev pub not_applied : Book contracts → Outcome → Applied
not_applied b told = record { answer = told.answer; place = told.place; kind = 0; slot = 0; length = 0; book = b }

unfoldable pub applied : Book contracts → List ℕ → Applied
applied b bytes =
    let r = read_message bytes in
    if answer (apply_rules b bytes) =? 0
    then record { answer = 0; place = 0; kind = kind_given b r.read; slot = slot_given b r.read; length = r.length; book = after b (calls_of r.read) }
    else not_applied b (outcome (apply_rules b bytes))

-- ---- a run of packed messages

-- A step of the run: a message that is read takes its bytes, whatever the book answers. What is unreadable takes none, and leaves the book.
pub record Step : Type 0 where
  pub outcome : Outcome
  pub length : ℕ
  pub book : Book contracts

unfoldable pub stepped : Book contracts → List ℕ → Step
stepped b bytes =
    let r = read_message bytes in
    if r.answer =? 0
    then record { outcome = outcome (message_rules b r.read); length = r.length; book = after b (calls_of r.read) }
    else record { outcome = placeless r.answer; length = 0; book = b }

pub record Run : Type 0 where
  pub outcomes : List Outcome
  pub used : ℕ
  pub book : Book contracts

abbrev pub nothing_run : Book contracts → Run
nothing_run b = record { outcomes = []; used = 0; book = b }

-- the answers alone, and the places beside them (02, A3)
abbrev pub answers_in : List Outcome → List ℕ
answers_in outcomes = map (λ (o : Outcome). o.answer) outcomes

abbrev pub places_in : List Outcome → List ℕ
places_in outcomes = map (λ (o : Outcome). o.place) outcomes

-- each by itself on the book that the one before left, until the bytes end, one is unreadable, or there is room for no more outcomes
unfoldable pub applied_all : ℕ → Book contracts → List ℕ → Run
applied_all zero b bytes = nothing_run b
applied_all (suc room) b bytes =
    let one = stepped b bytes in
    let rest = applied_all room one.book (drop one.length bytes) in
    if length bytes =? 0
    then nothing_run b
    else if one.length =? 0
    then record { outcomes = one.outcome ∷ []; used = 0; book = b }
    else record { outcomes = one.outcome ∷ rest.outcomes; used = one.length + rest.used; book = rest.book }

-- the calls of such a run, whatever the book
unfoldable pub calls_in : ℕ → List ℕ → List (Call contracts)
calls_in zero bytes = []
calls_in (suc room) bytes =
    let r = read_message bytes in
    if r.answer =? 0 then calls_of r.read ++ calls_in room (drop r.length bytes) else []

-- A run is refused by 1 where the tables are no sound book, and then nothing is done.
unfoldable pub run_answer : Book contracts → ℕ
run_answer b = if sound b then 0 else 1

unfoldable pub run_on : ℕ → Book contracts → List ℕ → Run
run_on room b bytes = if sound b then applied_all room b bytes else nothing_run b
