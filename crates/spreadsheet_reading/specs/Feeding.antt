-- What the reader keeps of a line so far. Nothing here is to be believed: the promises of private functions cite it.
use Rattle.std.specs.Prelude.{Bool, true, false, ◌&&◌, ◌||◌, List, ℕ, ◌+◌, ◌-◌, ◌*◌, ◌^◌, ◌≤◌, ◌<◌, if◌then◌else◌}
use Rattle.words.specs.Lists.{any}
use Rattle.words.specs.Tests.{◌=?◌}
use Rattle.meaning.specs.Ledgers.{contracts}
use Rattle.meaning.specs.Messages as Meaning
use Rattle.spreadsheets.specs.Entries.{before, behind, is_digit, with_digit, value, decimals, kwh}
use Rattle.spreadsheet_reading.specs.declared.lines.Line.{Line}

unfoldable pub decimals_with : Bool → ℕ → ℕ → ℕ
decimals_with pointed places b = if is_digit b && pointed then places + 1 else places

abbrev pub blank_line : Line
blank_line = record { second = false; pointed = false; minus = false; period = 0; size = 0; decimals = 0 }

-- a line with one byte more, which is no line end
unfoldable pub fed : Line → ℕ → Line
fed line b =
    if line.second
    then record {
      second = true;
      pointed = line.pointed || (b =? 0x2E);
      minus = line.minus || (b =? 0x2D);
      period = line.period;
      size = with_digit line.size b;
      decimals = decimals_with line.pointed line.decimals b;
    }
    else record {
      second = b =? 0x2C;
      pointed = line.pointed;
      minus = line.minus;
      period = with_digit line.period b;
      size = line.size;
      decimals = line.decimals;
    }

-- the line after one byte more
unfoldable pub line_after : Line → ℕ → Line
line_after line b = if b =? 0x0A then blank_line else fed line b

-- its numbers have room for a digit more; they make an entry in range
pub record Small (line : Line) : Type 0 where
  pub period-small : line.period < 100000000
  pub size_small : line.size < 100000000
  pub decimals-small : line.decimals < 100

pub record InRange (line : Line) : Type 0 where
  pub period-range : line.period < 100
  pub places : line.decimals ≤ 3
  pub size-range : line.size * 10 ^ (3 - line.decimals) < 100000000

unfoldable pub entry_from : Line → Meaning.Entry contracts
entry_from line = record { period = line.period; volume = kwh line.minus line.size line.decimals }

-- the line that these bytes make
unfoldable pub line_of : List ℕ → Line
line_of w =
    record {
      second = any (◌=? 0x2C) w;
      pointed = any (◌=? 0x2E) (behind 0x2C w);
      minus = any (◌=? 0x2D) (behind 0x2C w);
      period = value (before 0x2C w);
      size = value (behind 0x2C w);
      decimals = decimals (behind 0x2C w);
    }
