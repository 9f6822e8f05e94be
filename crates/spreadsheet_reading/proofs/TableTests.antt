-- The tests of the tables, of every state, every turn and every byte's column, which antt computes.
use mathlib.Core.Bool.{Bool, true, not, ◌&&◌, ◌||◌}
use mathlib.Core.Path.{◌≡◌, refl}
use Prim.Native.Nat.{ℕ, suc, ◌-◌}
use lib.ListN.{get_or}
use Rattle.words.specs.Below.{every_below}
use Rattle.words.specs.Lists.{any, every_from, every_at, join}
use Rattle.std.specs.Prelude.{if◌then◌else◌}
use Rattle.words.specs.Tests.{◌<?◌, ◌≤?◌, ◌=?◌, between}
use Rattle.patterns.specs.Patterns.{Pattern, never, empty, one, ◌·◌, ◌∣◌, many, is_one_of}
use Rattle.patterns.proofs.Derivatives.{nullable, possible, example, is_never, after, either, derive, derives}
use Rattle.patterns.proofs.Same.{same}
use Rattle.spreadsheets.specs.Languages.{csv_file, table_file, number_file}
use Rattle.spreadsheets.specs.Entries.{before}
use Rattle.spreadsheets.specs.Refusals.{Language, csv, table, numbers, valid}
use Rattle.spreadsheets.proofs.LineCount.{begun_from}
use Rattle.spreadsheet_reading.specs.Machine as Machine
use Rattle.spreadsheet_reading.specs.Machine.{column_table, samples, rows, states, fresh_state, line_end, end, beginning_of, turn_at, is_state, state_in, file_ends}

abbrev pub pattern_of : Language → Pattern
pattern_of csv = csv_file
pattern_of table = table_file
pattern_of numbers = number_file
pattern_of valid = number_file

-- what must follow in a state, and after a byte of a column more
unfoldable pub left : Language → ℕ → Pattern
left l state = derives (beginning_of state) (pattern_of l)

unfoldable pub sample : ℕ → ℕ
sample column = get_or samples column 0

unfoldable pub onward : ℕ → ℕ → Language → Pattern
onward state column l = derive (sample column) (left l state)

-- the state is at the beginning of a line
abbrev pub fresh : ℕ → Bool
fresh state = (state =? 0) || (state =? fresh_state)

abbrev pub alike : Bool → Bool → Bool
alike a b = if a then b else not b

-- in each of the three languages
abbrev pub each : (Language → Bool) → Bool
each f = f csv && (f table && f numbers)

-- a turn refuses by the lowest number of whose language no file can go on; of the last language none can
abbrev pub refuses : (Language → Bool) → (Language → Bool) → ℕ → Bool
refuses gone still turn =
    gone numbers &&
    (if turn =? 57 then gone csv else
    (if turn =? 48 then still csv && gone table else
    turn =? 49 && (still csv && still table)))

-- a turn that is a state: what must follow it is what must follow there; it is no start, and a line's beginning just after LF
abbrev pub goes : ℕ → ℕ → ℕ → Bool
goes state column next =
    each (λ l. same (onward state column l) (left l next)) &&
    (next <? states && (not (next =? 0) && alike (next =? fresh_state) (column =? line_end)))

abbrev pub right_turn : ℕ → ℕ → ℕ → Bool
right_turn state column turn =
    if column =? end
    then (if turn =? file_ends then nullable (left numbers state) else refuses (λ l. not (nullable (left l state))) (λ l. nullable (left l state)) turn)
    else (if is_state turn then goes state column (state_in turn) else refuses (λ l. is_never (onward state column l)) (λ l. possible (onward state column l)) turn)

-- no range tells a byte from the sample of its column
unfoldable pub uniform : Pattern → Bool
uniform never = true
uniform empty = true
uniform (one ranges) = every_at (λ b x. alike (is_one_of ranges b) (is_one_of ranges (sample (x - 97)))) column_table
uniform (p · q) = uniform p && uniform q
uniform (p ∣ q) = uniform p && uniform q
uniform (many p) = uniform p

-- some file goes on from the state, without a new line
abbrev pub right_state : ℕ → Bool
right_state state =
    each (λ l. possible (left l state)) &&
    (each (λ l. uniform (left l state)) && begun_from (fresh state) (example (left numbers state)) ≤? (if state =? 0 then 1 else 0))

unfoldable computed : Unit {0}
unfolding same left sample onward begun_from uniform nullable possible example is_never after either derive derives column_table samples rows Machine.turn_table
    beginning_of turn_at before join csv_file table_file number_file is_one_of any every_from every_at every_below
computed = tt

pub every-turn : every_below states (λ state. every_below (suc end) (λ column. right_turn state column (turn_at state column))) ≡ true
unfolding computed
every-turn = refl

pub every-state : every_below states right_state ≡ true
unfolding computed
every-state = refl

pub every-column : every_at (λ b x. between 97 114 x && alike (b =? 10) (x - 97 =? line_end)) column_table ≡ true
unfolding computed
every-column = refl
