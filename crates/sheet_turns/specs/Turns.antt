-- How the sheet program goes through its input: the first bytes, then turns over the parts in which the rest comes.
use Rattle.std.specs.Prelude.{Bool, true, false, not, ◌&&◌, ◌||◌, List, [], ◌∷◌, ◌++◌, ℕ, ◌+◌, ◌-◌, ◌%◌, ◌^◌, length, get_or, take, drop, if◌then◌else◌}
use Rattle.words.specs.Tests.{◌<?◌, ◌≤?◌, ◌=?◌}
use Rattle.words.specs.Rules.{Outcome}
use Rattle.meaning.specs.Ledgers.{contracts}
use Rattle.meaning.specs.Books.{Book, Setup, opened_book}
use Rattle.meaning.specs.PackedMessages.{Reading}
use Rattle.meaning.specs.PackedCalls.{Run, answers_in}
use Rattle.meaning.specs.SheetLines.{sheet_line, message_lines, end_line, setup_line}
use Rattle.meaning.specs.Sheet.{slots, read_first, total_lines, run_over}

-- ---- the setup and the first line

unfoldable pub line_for : ℕ → ℕ → ℕ → ℕ → List ℕ
line_for answer first days accounts = if answer =? 0 then sheet_line first days accounts else setup_line answer

unfoldable pub first_line : Reading Setup → List ℕ
first_line r = line_for r.answer r.read.first (length r.read.codes) r.read.accounts

-- ---- a turn: the bytes at hand are run

-- the last of so many answers; 0 where there is none
unfoldable pub last_in : List ℕ → ℕ → ℕ
last_in answers count = if count =? 0 then 0 else get_or answers (count - 1) 0

-- Where the last message ends too soon (19) and more bytes may come, nothing is told of it: it is kept for the next turn.
unfoldable pub waits_for : Bool → ℕ → ℕ → ℕ → Bool
waits_for ended size used last = not ended && used <? size && last =? 19

unfoldable pub waits : Bool → ℕ → Run → Bool
waits ended size run = waits_for ended size run.used (last_in (answers_in run.outcomes) (length run.outcomes))

-- how many outcomes are told
unfoldable pub count_told : Bool → ℕ → ℕ
count_told waiting count = if waiting then count - 1 else count

unfoldable pub told_count : Bool → ℕ → Run → ℕ
told_count ended size run = count_told (waits ended size run) (length run.outcomes)

unfoldable pub told : Bool → ℕ → Run → List Outcome
told ended size run = take (told_count ended size run) run.outcomes

-- An unreadable message ends reading; so does the end of the input.
unfoldable pub goes : Bool → ℕ → Run → Bool
goes ended size run = not ended && (size ≤? run.used || waits ended size run)

-- the lines of the outcomes told, where so many messages were told before
unfoldable pub told_lines : ℕ → List Outcome → List (List ℕ)
told_lines seen outcomes = message_lines ((seen + 1) % 2 ^ 64) outcomes

unfoldable pub seen_after : ℕ → ℕ → ℕ
seen_after seen count = (seen + count) % 2 ^ 64

-- ---- the program: the bytes that came first, then parts, of which only the last, `final`, is known to be the last

pub record Turn : Type 0 where
  pub lines : List (List ℕ)
  pub seen : ℕ
  pub book : Book contracts
  pub kept : List ℕ
  pub going : Bool

unfoldable pub turn_of : ℕ → Book contracts → Bool → List ℕ → Turn
turn_of seen b ended bytes =
    let run = run_over b bytes in
    record {
      lines = told_lines seen (told ended (length bytes) run);
      seen = seen_after seen (told_count ended (length bytes) run);
      book = run.book;
      kept = drop run.used bytes;
      going = goes ended (length bytes) run;
    }

abbrev pub then_turn : Turn → Turn → Turn
then_turn t rest =
    if t.going
    then record { lines = t.lines ++ rest.lines; seen = rest.seen; book = rest.book; kept = rest.kept; going = rest.going }
    else t

-- each part is put behind what is kept of those before
unfoldable pub all_turns : ℕ → Book contracts → List ℕ → List (List ℕ) → List ℕ → Turn
all_turns seen b kept [] final = turn_of seen b true (kept ++ final)
all_turns seen b kept (part ∷ parts) final =
    let t = turn_of seen b false (kept ++ part) in then_turn t (all_turns t.seen t.book t.kept parts final)

unfoldable pub printed : List ℕ → List (List ℕ) → List ℕ → List (List ℕ)
printed first parts final =
    let r = read_first first in
    let t = all_turns 0 (opened_book contracts r.read slots) (drop r.length first) parts final in
    if r.answer =? 0 then first_line r ∷ (t.lines ++ total_lines t.book ++ (end_line t.seen ∷ [])) else first_line r ∷ []
