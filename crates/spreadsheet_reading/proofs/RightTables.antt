-- The tables follow the languages: what the tests (TableTests.antt) say of a state, a turn and a byte's column.
use mathlib.Core.Bool.{Bool, true, false, not, ◌&&◌}
use mathlib.Core.Path.{◌≡◌, refl, sym, ap}
use Prim.Native.Nat.{ℕ, ◌-◌, ◌≤◌, ◌<◌}
use native.Mathlib.Omega.{arith}
use lib.ListN.{length, get_or}
use borrow.Author.Tests.{leb-true, ltb-true, ne_eqb, eq-eqb, le-leb, lt-leb}
use Rattle.words.specs.Below.{every_below}
use Rattle.words.specs.Lists.{join}
use Rattle.std.specs.Prelude.{if◌then◌else◌}
use Rattle.words.specs.Tests.{◌<?◌, ◌≤?◌, ◌=?◌, between}
use Rattle.laws.proofs.Cases.{on, and_left, and_right, not-true}
use Rattle.laws.proofs.Below.{every-at}
use Rattle.laws.proofs.Lists.{every_at-at}
use Rattle.patterns.specs.Patterns.{Pattern, never, empty, one, ◌·◌, ◌∣◌, many, is_one_of}
use Rattle.patterns.proofs.Derivatives.{nullable, possible, example, is_never, after, either, derive}
use Rattle.patterns.proofs.Same.{same, same-is}
use Rattle.spreadsheets.specs.Refusals.{Language, csv, table, numbers, valid, number}
use Rattle.spreadsheets.proofs.LineCount.{begun_from}
use Rattle.spreadsheet_reading.specs.Machine as Machine
use Rattle.spreadsheet_reading.specs.Machine.{column_table, rows, column_of, turn_at, state_in, refusal_in}
use Rattle.spreadsheet_reading.proofs.TableTests.{left, sample, onward, fresh, alike, each, refuses, goes, right_turn, uniform, right_state, every-turn, every-state, every-column}

lt-eqb : (m n : ℕ) → m < n → (m =? n) ≡ false
lt-eqb m n h = ne_eqb m n (λ e. omega arith)

pub alike_is : (a b : Bool) → alike a b ≡ true → a ≡ b
alike_is true true e = refl
alike_is true false e = sym e
alike_is false true e = e
alike_is false false e = refl

pub columns-length : length column_table ≡ 256
unfolding column_table
columns-length = refl

pub table-length : length Machine.turn_table ≡ 2750
unfolding Machine.turn_table rows join
table-length = refl

module _ (b : ℕ) (h : b < 256) where
  column-fact : between 97 114 (get_or column_table b 0) && alike (b =? 10) (get_or column_table b 0 - 97 =? 15) ≡ true
  column-fact = every_at-at (λ b x. between 97 114 x && alike (b =? 10) (x - 97 =? 15)) column_table 0 every-column b (omega (arith, columns-length))

  pub column-range : (97 ≤ get_or column_table b 0) × (get_or column_table b 0 ≤ 114)
  column-range =
      let x = get_or column_table b 0 in
      let e = and_left (between 97 114 x) (alike (b =? 10) (x - 97 =? 15)) column-fact in
      (leb-true 97 x (and_left (97 ≤? x) (x ≤? 114) e), leb-true x 114 (and_right (97 ≤? x) (x ≤? 114) e))

  pub column-small : column_of b < 18
  unfolding column_of
  column-small = omega (arith, column-range.0, column-range.1)

  pub column-line : (b =? 10) ≡ (column_of b =? 15)
  unfolding column_of
  column-line =
      alike_is (b =? 10) (get_or column_table b 0 - 97 =? 15) (and_right (between 97 114 (get_or column_table b 0)) (alike (b =? 10) (get_or column_table b 0 - 97 =? 15)) column-fact)

  pub derive-sample : (p : Pattern) → uniform p ≡ true → derive b p ≡ derive (sample (column_of b)) p
  unfolding derive uniform column_of
  derive-sample never e = refl
  derive-sample empty e = refl
  derive-sample (one ranges) e =
      let x = get_or column_table b 0 in
      let f = every_at-at (λ b x. alike (is_one_of ranges b) (is_one_of ranges (sample (x - 97)))) column_table 0 e b (omega (arith, columns-length)) in
      rw (alike_is (is_one_of ranges b) (is_one_of ranges (sample (x - 97))) f)
  derive-sample (p · q) e =
      let m = derive-sample p (and_left (uniform p) (uniform q) e) in
      let n = derive-sample q (and_right (uniform p) (uniform q) e) in
      λ i. if nullable p then either (after (m i) q) (n i) else after (m i) q
  derive-sample (p ∣ q) e =
      let m = derive-sample p (and_left (uniform p) (uniform q) e) in
      let n = derive-sample q (and_right (uniform p) (uniform q) e) in
      λ i. either (m i) (n i)
  derive-sample (many p) e = ap (λ (r : Pattern). after r (many p)) (derive-sample p e)

each-is : (f : Language → Bool) → each f ≡ true → (l : Language) → number l < 32 → f l ≡ true
each-is f e csv h = and_left (f csv) (f table && f numbers) e
each-is f e table h = and_left (f table) (f numbers) (and_right (f csv) (f table && f numbers) e)
each-is f e numbers h = and_right (f table) (f numbers) (and_right (f csv) (f table && f numbers) e)
each-is f e valid h = absurd (omega arith)

module _ (state : ℕ) (h : state < 55) where
  state-fact : right_state state ≡ true
  state-fact = every-at 55 right_state every-state state h

  state-rest : each (λ l. uniform (left l state)) && begun_from (fresh state) (example (left numbers state)) ≤? (if state =? 0 then 1 else 0) ≡ true
  state-rest =
      and_right (each (λ l. possible (left l state)))
      (each (λ l. uniform (left l state)) && begun_from (fresh state) (example (left numbers state)) ≤? (if state =? 0 then 1 else 0)) state-fact

  pub state-possible : (l : Language) → number l < 32 → possible (left l state) ≡ true
  state-possible l k =
      each-is (λ l. possible (left l state))
      (and_left (each (λ l. possible (left l state)))
      (each (λ l. uniform (left l state)) && begun_from (fresh state) (example (left numbers state)) ≤? (if state =? 0 then 1 else 0)) state-fact) l k

  pub state-uniform : (l : Language) → number l < 32 → uniform (left l state) ≡ true
  state-uniform l k =
      each-is (λ l. uniform (left l state))
      (and_left (each (λ l. uniform (left l state))) (begun_from (fresh state) (example (left numbers state)) ≤? (if state =? 0 then 1 else 0)) state-rest) l k

  pub state-lines : begun_from (fresh state) (example (left numbers state)) ≤ (if state =? 0 then 1 else 0)
  state-lines =
      leb-true (begun_from (fresh state) (example (left numbers state))) (if state =? 0 then 1 else 0)
      (and_right (each (λ l. uniform (left l state))) (begun_from (fresh state) (example (left numbers state)) ≤? (if state =? 0 then 1 else 0)) state-rest)

  turn-fact : (column : ℕ) → column < 19 → right_turn state column (turn_at state column) ≡ true
  turn-fact column k =
      every-at 19 (λ column. right_turn state column (turn_at state column))
      (every-at 55 (λ state. every_below 19 (λ column. right_turn state column (turn_at state column))) every-turn state h) column k

  -- a turn that is a state
  module _ (column : ℕ) (k : column < 18) (live : 65 ≤ turn_at state column) where
    abbrev next : ℕ
    next = state_in (turn_at state column)

    goes-fact : goes state column next ≡ true
    goes-fact = rw (lt-eqb column 18 k, le-leb 65 (turn_at state column) live) at (turn-fact column (omega arith))

    goes-rest : next <? 55 && (not (next =? 0) && alike (next =? 25) (column =? 15)) ≡ true
    goes-rest =
        and_right (each (λ l. same (onward state column l) (left l next))) (next <? 55 && (not (next =? 0) && alike (next =? 25) (column =? 15))) goes-fact

    goes-line : not (next =? 0) && alike (next =? 25) (column =? 15) ≡ true
    goes-line = and_right (next <? 55) (not (next =? 0) && alike (next =? 25) (column =? 15)) goes-rest

    pub next_small : next < 55
    next_small = ltb-true next 55 (and_left (next <? 55) (not (next =? 0) && alike (next =? 25) (column =? 15)) goes-rest)

    pub onward-is : (l : Language) → number l < 32 → onward state column l ≡ left l next
    onward-is l m =
        same-is (onward state column l) (left l next)
        (each-is (λ l. same (onward state column l) (left l next))
        (and_left (each (λ l. same (onward state column l) (left l next))) (next <? 55 && (not (next =? 0) && alike (next =? 25) (column =? 15))) goes-fact)
        l m)

    pub next-later : (next =? 0) ≡ false
    next-later = not-true (next =? 0) (and_left (not (next =? 0)) (alike (next =? 25) (column =? 15)) goes-line)

    pub next-line : (next =? 25) ≡ (column =? 15)
    next-line = alike_is (next =? 25) (column =? 15) (and_right (not (next =? 0)) (alike (next =? 25) (column =? 15)) goes-line)

  -- a turn that refuses
  pub refuses-byte : (column : ℕ) → column < 18 → turn_at state column < 65
      → refuses (λ l. is_never (onward state column l)) (λ l. possible (onward state column l)) (turn_at state column) ≡ true
  refuses-byte column k dead = rw (lt-eqb column 18 k, lt-leb 65 (turn_at state column) dead) at (turn-fact column (omega arith))

  pub refuses-end : (turn_at state 18 ≡ 46 → ⊥) → refuses (λ l. not (nullable (left l state))) (λ l. nullable (left l state)) (turn_at state 18) ≡ true
  refuses-end n = rw (ne_eqb (turn_at state 18) 46 n) at (turn-fact 18 (omega arith))

  pub accepts-end : turn_at state 18 ≡ 46 → nullable (left numbers state) ≡ true
  accepts-end e = rw (eq-eqb (turn_at state 18) 46 e) at (turn-fact 18 (omega arith))

-- which language it names
pub record Named (gone still : Language → Bool) (turn : ℕ) : Type 0 where
  pub language : Language
  pub below : number language < 32
  pub named : number language ≡ refusal_in turn
  pub out : gone language ≡ true
  pub all-out : gone numbers ≡ true
  pub others : (l : Language) → number l < number language → still l ≡ true

pub name : (gone still : Language → Bool) (turn : ℕ) → refuses gone still turn ≡ true → Named gone still turn
name gone still turn e =
    let tail : Bool =
    if turn =? 57 then gone csv else
    (if turn =? 48 then still csv && gone table else
    turn =? 49 && (still csv && still table)) in
    let all = and_left (gone numbers) tail e in
    let rest : tail ≡ true = and_right (gone numbers) tail e in
    on (turn =? 57)
    (λ p. record {
      language = csv;
      below = omega arith;
      named = rw p;
      out = rw p at rest;
      all-out = all;
      others = λ l h. absurd (lowest-number l h);
    })
    (λ p. on (turn =? 48)
    (λ q.
    let r : still csv && gone table ≡ true = rw (p, q) at rest in
    record {
      language = table;
      below = omega arith;
      named = rw (p, q);
      out = and_right (still csv) (gone table) r;
      all-out = all;
      others = λ l h. second-number still (and_left (still csv) (gone table) r) l h;
    })
    (λ q.
    let r : turn =? 49 && (still csv && still table) ≡ true = rw (p, q) at rest in
    let t = and_right (turn =? 49) (still csv && still table) r in
    record {
      language = numbers;
      below = omega arith;
      named = rw (p, q);
      out = all;
      all-out = all;
      others = λ l h. third-number still (and_left (still csv) (still table) t) (and_right (still csv) (still table) t) l h;
    }))
  where
    lowest-number : (l : Language) → number l < 29 → ⊥
    lowest-number csv h = omega arith
    lowest-number table h = omega arith
    lowest-number numbers h = omega arith
    lowest-number valid h = omega arith

    second-number : (still : Language → Bool) → still csv ≡ true → (l : Language) → number l < 30 → still l ≡ true
    second-number still e csv h = e
    second-number still e table h = absurd (omega arith)
    second-number still e numbers h = absurd (omega arith)
    second-number still e valid h = absurd (omega arith)

    third-number : (still : Language → Bool) → still csv ≡ true → still table ≡ true → (l : Language) → number l < 31 → still l ≡ true
    third-number still e f csv h = e
    third-number still e f table h = f
    third-number still e f numbers h = absurd (omega arith)
    third-number still e f valid h = absurd (omega arith)
