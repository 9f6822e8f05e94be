-- What the parts of the sheet program give: numbers beside the lines that they write.
use Rattle.std.specs.Prelude.{ℕ, suc, ◌*◌, ◌/◌, ◌%◌, Bool, List, [], length, take, drop, ℤ, pos, slice_index_or, if◌then◌else◌}
use Rattle.words.specs.Tests.{◌<?◌}
use Rattle.words.specs.Lists.{build, join}
use Rattle.meaning.specs.Time.{days, day_number}
use Rattle.meaning.specs.Ledgers.{contracts}
use Rattle.meaning.specs.Books as Meaning
use Rattle.meaning.specs.Books.{Setup}
use Rattle.meaning.specs.PackedMessages.{Reading}
use Rattle.meaning.specs.PackedCalls.{Run}
use Rattle.book.specs.declared.Book.{Book}
use Rattle.book.specs.Answers.{opened_packed}
use Rattle.calls.specs.Answers.{book_at}
use Rattle.sheet_lines.specs.Places.{place_after, place_after_all}
use Rattle.meaning.specs.Sheet.{period_lines, day_lines}
use Rattle.sheet_turns.specs.Turns.{first_line, told_count, told, goes, told_lines, seen_after}
use Rattle.sheet_parts.specs.Seen.{Begun}
use Rattle.sheet_parts.specs.declared.Turned.{Turned}

-- where the lent buffer has this size
unfoldable pub begun_of : ℕ → Reading Setup → Begun
begun_of size read =
    let o = opened_packed read in
    record { answer = o.answer; used = o.length; written = place_after size 0 (first_line read); book = o.book }

unfoldable pub turned_of : Book → ℕ → Bool → ℕ → ℕ → Run → Turned
turned_of b seen ended size room run =
    record {
      going = goes ended size run;
      seen = seen_after seen (told_count ended size run);
      used = run.used;
      written = place_after_all room 0 (told_lines seen (told ended size run));
      book = book_at b run.book;
    }

-- ---- the lines of a day's totals, the first of which is that of period 1

unfoldable pub kwh_lines : ℕ → ℕ → List ℤ → List (List ℕ)
kwh_lines account day kwhs = join (build (length kwhs) (λ (p : ℕ). period_lines account day (suc p) (slice_index_or kwhs p (pos 0))))

-- ---- the accounts' days one after the other: account 0 on each day, then account 1

unfoldable pub account_days : Meaning.Book contracts → ℕ
account_days b = b.setting.accounts * days b.setting.time

unfoldable pub account_day_lines : Meaning.Book contracts → ℕ → List (List ℕ)
account_day_lines b k =
    if k <? account_days b then day_lines b (k / days b.setting.time) (day_number b.setting.time (k % days b.setting.time)) else []

-- ---- what is left of the bytes at hand, of which so many are used

unfoldable pub kept_of : ℕ → ℕ → List ℕ → List ℕ
kept_of used have input = drop used (take have input)
