-- How many digits a line has at most in each state, where it knows of the comma and the point; and that a byte more adds no digit too many.
use mathlib.Core.Bool.{Bool, true, false, not, ◌&&◌, ◌||◌, true≢false}
use mathlib.Core.List.{List, [], ◌∷◌}
use mathlib.Core.Path.{◌≡◌, refl, sym}
use Prim.Native.Nat.{ℕ, suc, ◌-◌, ◌^◌, ◌≤◌, ◌<◌}
use native.Mathlib.Omega.{arith}
use lib.ListN.{get_or}
use borrow.Author.Tests.{leb-true, le-leb}
use Rattle.words.specs.Below.{every_below}
use Rattle.words.specs.Lists.{every_from, every_at, join}
use Rattle.std.specs.Prelude.{if◌then◌else◌}
use Rattle.words.specs.Tests.{◌≤?◌, ◌=?◌}
use Rattle.laws.proofs.Cases.{and_left, and_right}
use Rattle.laws.proofs.Below.{every-at}
use Rattle.laws.proofs.Lists.{every_at-at}
use Rattle.spreadsheets.specs.Entries.{before, is_digit}
use Rattle.spreadsheet_reading.specs.Machine.{samples, column_table, rows, turn_table, beginning_of, column_of, turn_at, is_state, state_in}
use Rattle.spreadsheet_reading.proofs.RightTables.{alike_is, columns-length}
use Rattle.spreadsheet_reading.proofs.TableTests.{sample, fresh, alike}
use Rattle.spreadsheets.proofs.Lines.{current, current_from}

-- the digits before and behind the comma, and of the latter those behind the point
pub record Shape : Type 0 where
  pub second : Bool
  pub pointed : Bool
  pub ones : ℕ
  pub wholes : ℕ
  pub tenths : ℕ

abbrev pub more : Bool → ℕ → ℕ
more t n = if t then suc n else n

unfoldable pub shaped_by : Shape → Bool → Bool → Bool → Shape
shaped_by s digit comma point =
    if s.second
    then record {
      second = true;
      pointed = s.pointed || point;
      ones = s.ones;
      wholes = more (digit && not s.pointed) s.wholes;
      tenths = more (digit && s.pointed) s.tenths;
    }
    else record { second = comma; pointed = s.pointed; ones = more digit s.ones; wholes = s.wholes; tenths = s.tenths }

unfoldable pub shaped : Shape → ℕ → Shape
shaped s b = shaped_by s (is_digit b) (b =? 0x2C) (b =? 0x2E)

unfoldable pub blank_shape : Shape
blank_shape = record { second = false; pointed = false; ones = 0; wholes = 0; tenths = 0 }

unfoldable pub shape_from : Shape → List ℕ → Shape
shape_from s [] = s
shape_from s (b ∷ w) = shape_from (shaped s b) w

unfoldable pub shape_at : ℕ → Shape
shape_at state = shape_from blank_shape (current (beginning_of state))

-- ---- computed

-- the states of an entry in which a digit may follow know where in the line they are
abbrev pub knows : ℕ → Bool
knows state = 25 ≤? state && state ≤? 53

abbrev within : Shape → Shape → Bool
within s t = s.ones ≤? t.ones && (s.wholes ≤? t.wholes && s.tenths ≤? t.tenths)

abbrev pub onward_shape : ℕ → ℕ → Shape
onward_shape state column = if column =? 15 then blank_shape else shaped (shape_at state) (sample column)

abbrev flagged : Bool → Shape → Shape → Bool
flagged before s t = before && (alike s.second t.second && alike s.pointed t.pointed)

abbrev right_shape : ℕ → ℕ → ℕ → Bool
right_shape state column next =
    within (onward_shape state column) (shape_at next)
    && ((not (knows next) || flagged ((column =? 15) || knows state) (onward_shape state column) (shape_at next))
    && ((not (is_digit (sample column)) || knows state) && not (fresh state && column =? 15)))

every-shape : every_below 55 (λ state. every_below 18 (λ column. not (is_state (turn_at state column)) || right_shape state column (state_in (turn_at state column)))) ≡ true
unfolding shaped_by shaped blank_shape shape_from shape_at current_from sample samples rows turn_table beginning_of turn_at before join every_below
every-shape = refl

abbrev pub fits : ℕ → Bool
fits state = 10 ^ (shape_at state).ones ≤? 100 && ((shape_at state).wholes ≤? 5 && (shape_at state).tenths ≤? 3)

pub every-fit : every_below 55 fits ≡ true
unfolding shaped_by shaped blank_shape shape_from shape_at current_from rows beginning_of before every_below
every-fit = refl

every-test : every_at (λ b x. alike (is_digit b) (is_digit (sample (x - 97))) && (alike (b =? 0x2C) (sample (x - 97) =? 0x2C) && alike (b =? 0x2E) (sample (x - 97) =? 0x2E))) column_table ≡ true
unfolding sample samples column_table every_at every_from
every-test = refl

-- ---- what they say

pub digit-sample : (b : ℕ) → b < 256 → is_digit b ≡ is_digit (sample (column_of b))
unfolding column_of
digit-sample b h =
    let x = sample (get_or column_table b 0 - 97) in
    let e = every_at-at (λ b x. alike (is_digit b) (is_digit (sample (x - 97))) && (alike (b =? 0x2C) (sample (x - 97) =? 0x2C) && alike (b =? 0x2E) (sample (x - 97) =? 0x2E))) column_table 0 every-test b (omega (arith, columns-length)) in
    alike_is (is_digit b) (is_digit x) (and_left (alike (is_digit b) (is_digit x)) (alike (b =? 0x2C) (x =? 0x2C) && alike (b =? 0x2E) (x =? 0x2E)) e)

pub shaped-sample : (s : Shape) (b : ℕ) → b < 256 → shaped s b ≡ shaped s (sample (column_of b))
unfolding shaped column_of
shaped-sample s b h =
    let x = sample (get_or column_table b 0 - 97) in
    let e = every_at-at (λ b x. alike (is_digit b) (is_digit (sample (x - 97))) && (alike (b =? 0x2C) (sample (x - 97) =? 0x2C) && alike (b =? 0x2E) (sample (x - 97) =? 0x2E))) column_table 0 every-test b (omega (arith, columns-length)) in
    let f = and_right (alike (is_digit b) (is_digit x)) (alike (b =? 0x2C) (x =? 0x2C) && alike (b =? 0x2E) (x =? 0x2E)) e in
    let p = alike_is (is_digit b) (is_digit x) (and_left (alike (is_digit b) (is_digit x)) (alike (b =? 0x2C) (x =? 0x2C) && alike (b =? 0x2E) (x =? 0x2E)) e) in
    let q = alike_is (b =? 0x2C) (x =? 0x2C) (and_left (alike (b =? 0x2C) (x =? 0x2C)) (alike (b =? 0x2E) (x =? 0x2E)) f) in
    let r = alike_is (b =? 0x2E) (x =? 0x2E) (and_right (alike (b =? 0x2C) (x =? 0x2C)) (alike (b =? 0x2E) (x =? 0x2E)) f) in
    λ i. shaped_by s (p i) (q i) (r i)

abbrev implies : Bool → Bool → Bool
implies a b = not a || b

implies-is : (a b : Bool) → implies a b ≡ true → a ≡ true → b ≡ true
implies-is true b e f = e
implies-is false b e f = absurd (true≢false (sym f))

module _ (state column : ℕ) (h : state < 55) (k : column < 18) (live : 65 ≤ turn_at state column) where
  abbrev next : ℕ
  next = state_in (turn_at state column)

  abbrev digits_fit : Bool
  digits_fit = within (onward_shape state column) (shape_at next)

  abbrev flags_follow : Bool
  flags_follow = not (knows next) || flagged ((column =? 15) || knows state) (onward_shape state column) (shape_at next)

  abbrev digits_known : Bool
  digits_known = not (is_digit (sample column)) || knows state

  abbrev line_begun : Bool
  line_begun = not (fresh state && column =? 15)

  shape-fact : digits_fit && (flags_follow && (digits_known && line_begun)) ≡ true
  shape-fact =
      implies-is (is_state (turn_at state column)) (right_shape state column next)
      (every-at 18 (λ column. not (is_state (turn_at state column)) || right_shape state column (state_in (turn_at state column)))
      (every-at 55 (λ state. every_below 18 (λ column. not (is_state (turn_at state column)) || right_shape state column (state_in (turn_at state column)))) every-shape state h) column k)
      (le-leb 65 (turn_at state column) live)

  pub next-ones : (onward_shape state column).ones ≤ (shape_at next).ones
  next-ones =
      let s = onward_shape state column in let t = shape_at next in
      leb-true s.ones t.ones (and_left (s.ones ≤? t.ones) (s.wholes ≤? t.wholes && s.tenths ≤? t.tenths) (and_left digits_fit (flags_follow && (digits_known && line_begun)) shape-fact))

  next-rest : (onward_shape state column).wholes ≤? (shape_at next).wholes && (onward_shape state column).tenths ≤? (shape_at next).tenths ≡ true
  next-rest =
      let s = onward_shape state column in let t = shape_at next in
      and_right (s.ones ≤? t.ones) (s.wholes ≤? t.wholes && s.tenths ≤? t.tenths) (and_left digits_fit (flags_follow && (digits_known && line_begun)) shape-fact)

  pub next-wholes : (onward_shape state column).wholes ≤ (shape_at next).wholes
  next-wholes =
      let s = onward_shape state column in let t = shape_at next in
      leb-true s.wholes t.wholes (and_left (s.wholes ≤? t.wholes) (s.tenths ≤? t.tenths) next-rest)

  pub next-tenths : (onward_shape state column).tenths ≤ (shape_at next).tenths
  next-tenths =
      let s = onward_shape state column in let t = shape_at next in
      leb-true s.tenths t.tenths (and_right (s.wholes ≤? t.wholes) (s.tenths ≤? t.tenths) next-rest)

  later : flags_follow && (digits_known && line_begun) ≡ true
  later = and_right digits_fit (flags_follow && (digits_known && line_begun)) shape-fact

  module _ (q : knows next ≡ true) where
    flags : flagged ((column =? 15) || knows state) (onward_shape state column) (shape_at next) ≡ true
    flags = implies-is (knows next) (flagged ((column =? 15) || knows state) (onward_shape state column) (shape_at next)) (and_left flags_follow (digits_known && line_begun) later) q

    both-flags : alike (onward_shape state column).second (shape_at next).second && alike (onward_shape state column).pointed (shape_at next).pointed ≡ true
    both-flags =
        let s = onward_shape state column in let t = shape_at next in
        and_right ((column =? 15) || knows state) (alike s.second t.second && alike s.pointed t.pointed) flags

    pub next_known : (column =? 15) || knows state ≡ true
    next_known =
        let s = onward_shape state column in let t = shape_at next in
        and_left ((column =? 15) || knows state) (alike s.second t.second && alike s.pointed t.pointed) flags

    pub next-second : (onward_shape state column).second ≡ (shape_at next).second
    next-second =
        let s = onward_shape state column in let t = shape_at next in
        alike_is s.second t.second (and_left (alike s.second t.second) (alike s.pointed t.pointed) both-flags)

    pub next-pointed : (onward_shape state column).pointed ≡ (shape_at next).pointed
    next-pointed =
        let s = onward_shape state column in let t = shape_at next in
        alike_is s.pointed t.pointed (and_right (alike s.second t.second) (alike s.pointed t.pointed) both-flags)

  pub digit-known : is_digit (sample column) ≡ true → knows state ≡ true
  digit-known e = implies-is (is_digit (sample column)) (knows state) (and_left digits_known line_begun (and_right flags_follow (digits_known && line_begun) later)) e

  pub line-ends : not (fresh state && column =? 15) ≡ true
  line-ends = and_right digits_known line_begun (and_right flags_follow (digits_known && line_begun) later)
