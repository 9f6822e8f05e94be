-- The loop keeps what is known of the bytes so far (SoFar.antt); each way out is one of the definition's answers (Judging.antt).
use mathlib.Core.Bool.{false, not, true≢false}
use mathlib.Core.List.{List}
use mathlib.Core.Path.{◌≡◌, refl, sym, ap, ◌∙◌, subst}
use Prim.Native.Nat.{ℕ, ◌-◌, ◌≤◌, ◌<◌}
use native.Mathlib.Omega.{arith}
use lib.ListN.{length, take, get_or, set}
use lib.Seq.{take_all}
use borrow.Author.Tests.{eqb-true, ltb-true, ne_eqb, eq-eqb, lt-ltb}
use Rattle.words.specs.Lists.{build}
use Rattle.words.specs.Tests.{◌<?◌, ◌=?◌}
use Rattle.laws.proofs.Cases.{and_left, and_right, both}
use Rattle.messages.specs.declared.Entry.{Entry}
use Rattle.spreadsheets.specs.Entries.{entries}
use Rattle.spreadsheets.specs.Refusals.{Judged}
use Rattle.spreadsheets.specs.Structs.{spreadsheet_for, no_spreadsheet}
use Rattle.spreadsheet_reading.specs.Reading.{Reading}
use Rattle.spreadsheet_reading.specs.Machine.{column_of, turn_at, refusal_in}
use Rattle.spreadsheet_reading.proofs.Feeds.{all-blank}
use Rattle.spreadsheet_reading.proofs.Judging.{refused-here, refused-most, refused_end, judged-file, refusal-some}
use Rattle.spreadsheet_reading.proofs.SoFar.{SoFar, nothing_yet, line_small, line-in-range, few-now, kept_on, read-on, ends-kept, ends_on}
use Rattle.spreadsheet_reading.proofs.read_by.Goals as goal
use Rattle.spreadsheet_reading.proofs.read_by.Goals.{After-entry_of, After-entry_of-then-state-begun-2, After-loop-place, After-turn_by-turn, Else-state-begun, Else-turn-ne-FILE, then-byte-begun, else-byte-begun}

pub loop-place-init : goal.loop-place-init
unfolding build
loop-place-init c = rw (all-blank c.default-line.result c.default-line.ensures) nothing_yet

-- ---- a turn

module _ (c : After-turn_by-turn) where
  abbrev bytes : List ℕ
  bytes = c.args.bytes.now

  abbrev i : ℕ
  i = c.loop-place.place

  abbrev state : ℕ
  state = c.loop-place.state

  abbrev begun : ℕ
  begun = c.loop-place.begun

  byte_small : get_or bytes i 0 < 256
  byte_small = omega (arith, c.type_inv.bytes i)

pub turn_by-turn-requires : goal.turn_by-turn-requires
turn_by-turn-requires c =
    c.loop-place.invariant.known.reached.small

-- a refusal at a place, with no entries
refusing : (s : List ℕ) (answer place : ℕ) → (answer =? 0) ≡ false → Judged s answer place → Reading s (record { answer = answer; place = place; spreadsheet = no_spreadsheet })
refusing s answer place some j = record { judged = j; holds = rw some }

pub returns-then-turn-lt-FIRST_STATE : goal.returns-then-turn-lt-FIRST_STATE
returns-then-turn-lt-FIRST_STATE c =
    let t : After-turn_by-turn = (goal.at.returns-then-turn-lt-FIRST_STATE c).After-turn_by-turn in
    rw c.refusal_in.ensures
    (refusing (bytes t) (refusal_in c.turn_by-turn.result) (i t)
    (refusal-some c.turn_by-turn.result)
    (refused-here (bytes t) (i t) (state t) (begun t) (omega arith) (byte_small t) c.loop-place.invariant.known.reached c.loop-place.invariant.known.few c.turn_by-turn.result c.turn_by-turn.ensures (omega arith)))

pub returns-then-state-begun : goal.returns-then-state-begun
returns-then-state-begun c =
    let t : After-turn_by-turn = (goal.at.returns-then-state-begun c).After-turn_by-turn in
    let n : c.turn_by-turn.result ≡ turn_at (state t) (column_of (get_or (bytes t) (i t) 0)) = c.turn_by-turn.ensures in
    refusing (bytes t) 32 (i t) refl
    (refused-most (bytes t) (i t) (state t) (begun t) (omega arith) (byte_small t) c.loop-place.invariant.known.reached c.loop-place.invariant.known.few (omega (arith, n))
    (eqb-true (state t) 25 (and_left (state t =? 25) (begun t =? 50) c.if-state-begun.true)) (eqb-true (begun t) 50 (and_right (state t =? 25) (begun t =? 50) c.if-state-begun.true)))

pub begun_after-begun-requires : goal.begun_after-begun-requires
begun_after-begun-requires c = c.loop-place.invariant.known.few

pub entry_of-requires : goal.entry_of-requires
entry_of-requires c =
    let t : After-turn_by-turn = (goal.at.entry_of-requires c).After-turn_by-turn in
    line-in-range (take (i t) (bytes t)) (state t) (begun t) c.loop-place.line c.loop-place.entries c.loop-place.invariant

-- where a line may begin, an entry more has room
module _ (f : Else-state-begun) where
  room : f.loop-place.state ≡ 25 → f.loop-place.begun ≡ 50 → ⊥
  room p q = true≢false (sym (both (eq-eqb f.loop-place.state 25 p) (eq-eqb f.loop-place.begun 50 q)) ∙ f.if-state-begun.false)

-- at the end of an entry's line one is begun
some-begun : (c : After-entry_of) → 0 < c.begun_after-begun.result
some-begun c =
    ltb-true 0 c.begun_after-begun.result (and_right (get_or c.args.bytes.now c.loop-place.place 0 =? 10) (0 <? c.begun_after-begun.result) c.if-byte-begun.true)

pub overflow_sub-entries : goal.overflow_sub-entries
overflow_sub-entries c = some-begun (goal.at.overflow_sub-entries c).After-entry_of

pub bounds-entries-begun : goal.bounds-entries-begun
bounds-entries-begun c =
    let t : After-turn_by-turn = (goal.at.bounds-entries-begun c).After-turn_by-turn in
    let f : Else-state-begun = (goal.at.bounds-entries-begun c).Else-state-begun in
    let few : c.begun_after-begun.result ≤ 50 =
    few-now (bytes t) (i t) (state t) (begun t) c.turn_by-turn.result c.loop-place.line c.loop-place.entries (omega arith) (byte_small t) c.loop-place.invariant c.turn_by-turn.ensures (omega arith) (room f)
    c.begun_after-begun.result c.begun_after-begun.ensures in
    omega (arith, few, some-begun (goal.at.bounds-entries-begun c).After-entry_of)

pub line_after-line-requires : goal.line_after-line-requires
line_after-line-requires c =
    let t : After-turn_by-turn = (goal.at.line_after-line-requires c).After-turn_by-turn in
    line_small (take (i t) (bytes t)) (state t) (begun t) c.loop-place.line c.loop-place.entries c.loop-place.invariant

pub loop-place-preserved : goal.loop-place-preserved
loop-place-preserved c =
    let t : After-turn_by-turn = (goal.at.loop-place-preserved c).After-turn_by-turn in
    let f : Else-state-begun = (goal.at.loop-place-preserved c).Else-state-begun in
    let b = get_or (bytes t) (i t) 0 in
    let n = c.begun_after-begun.result in
    elim c.if-byte-begun.branch [
      | then-byte-begun w ↦
          rw w.entries-is
          (kept_on (bytes t) (i t) (state t) (begun t) c.turn_by-turn.result c.loop-place.line c.loop-place.entries (omega arith) (byte_small t) c.loop-place.invariant c.turn_by-turn.ensures (omega arith) (room f)
          n c.line_after-line.result c.begun_after-begun.ensures c.line_after-line.ensures w.entry_of.result w.entry_of.ensures
          (eqb-true b 10 (and_left (b =? 10) (0 <? n) w.if-byte-begun.true)) (ltb-true 0 n (and_right (b =? 10) (0 <? n) w.if-byte-begun.true)))
      | else-byte-begun w ↦
          rw w.entries-is
          (read-on (bytes t) (i t) (state t) (begun t) c.turn_by-turn.result c.loop-place.line c.loop-place.entries (omega arith) (byte_small t) c.loop-place.invariant c.turn_by-turn.ensures (omega arith) (room f)
          n c.line_after-line.result c.begun_after-begun.ensures c.line_after-line.ensures
          (λ p q. true≢false (sym (both (eq-eqb b 10 p) (lt-ltb 0 n q)) ∙ w.if-byte-begun.false)))
    ]

-- ---- the end

pub turn_at_end-turn-requires : goal.turn_at_end-turn-requires
turn_at_end-turn-requires c =
    c.loop-place.invariant.known.reached.small

-- all bytes are read
module _ (c : After-loop-place) where
  abbrev all-bytes : List ℕ
  all-bytes = c.args.bytes.now

  so_far : SoFar all-bytes c.loop-place.state c.loop-place.begun c.loop-place.line c.loop-place.entries
  so_far =
      let l = c.loop-place in
      subst (λ (u : List ℕ). SoFar u l.state l.begun l.line l.entries) (take_all l.place all-bytes (omega arith)) l.invariant

pub returns-then-turn-ne-FILE : goal.returns-then-turn-ne-FILE
returns-then-turn-ne-FILE c =
    let d : After-loop-place = (goal.at.returns-then-turn-ne-FILE c).After-loop-place in
    let l = c.loop-place in
    let s = all-bytes d in
    rw c.refusal_in-then-turn-ne-FILE.ensures
    (refusing s (refusal_in c.turn_at_end-turn.result) (length s)
    (refusal-some c.turn_at_end-turn.result)
    (refused_end s l.state l.begun (so_far d).known.reached (so_far d).known.few c.turn_at_end-turn.result (length s) c.turn_at_end-turn.ensures refl c.if-turn-ne-FILE.true))

pub entry_of-requires-then-state-begun-2 : goal.entry_of-requires-then-state-begun-2
entry_of-requires-then-state-begun-2 c =
    line-in-range (take c.loop-place.place c.args.bytes.now) c.loop-place.state c.loop-place.begun c.loop-place.line c.loop-place.entries c.loop-place.invariant

some-begun-2 : (c : After-entry_of-then-state-begun-2) → 0 < c.loop-place.begun
some-begun-2 c =
    ltb-true 0 c.loop-place.begun (and_right (not (c.loop-place.state =? 25)) (0 <? c.loop-place.begun) c.if-state-begun-2.true)

pub overflow_sub-entries-then-state-begun-2 : goal.overflow_sub-entries-then-state-begun-2
overflow_sub-entries-then-state-begun-2 c = some-begun-2 (goal.at.overflow_sub-entries-then-state-begun-2 c).After-entry_of-then-state-begun-2

pub bounds-entries-begun-then-state-begun-2 : goal.bounds-entries-begun-then-state-begun-2
bounds-entries-begun-then-state-begun-2 c =
    omega (arith, c.loop-place.invariant.known.few, some-begun-2 (goal.at.bounds-entries-begun-then-state-begun-2 c).After-entry_of-then-state-begun-2)

-- a valid file, and the array of its entries
module _ (e : Else-turn-ne-FILE) where
  file-ends : turn_at e.loop-place.state 18 ≡ 46
  file-ends = sym e.turn_at_end-turn.ensures ∙ e.if-turn-ne-FILE.false

  accepting : (es : List Entry)
      → record { count = e.loop-place.begun; entries = es } ≡ spreadsheet_for (entries e.args.bytes.now)
      → Reading e.args.bytes.now (record { answer = 0; place = length e.args.bytes.now; spreadsheet = record { count = e.loop-place.begun; entries = es } })
  accepting es h =
      let d : After-loop-place = (goal.at.Else-turn-ne-FILE e).After-loop-place in
      let l = e.loop-place in
      record {
        judged = judged-file (all-bytes d) l.state l.begun (so_far d).known.reached (so_far d).known.few file-ends;
        holds = h;
      }

pub returns-then-state-begun-2 : goal.returns-then-state-begun-2
returns-then-state-begun-2 c =
    let e : Else-turn-ne-FILE = (goal.at.returns-then-state-begun-2 c).Else-turn-ne-FILE in
    let d : After-loop-place = (goal.at.returns-then-state-begun-2 c).After-loop-place in
    let l = c.loop-place in
    accepting e (set l.entries (l.begun - 1) c.entry_of-then-state-begun-2.result)
    (ends-kept (all-bytes d) l.state l.begun l.line l.entries (so_far d) (file-ends e) c.entry_of-then-state-begun-2.result c.entry_of-then-state-begun-2.ensures
    (λ p. true≢false (sym (and_left (not (l.state =? 25)) (0 <? l.begun) c.if-state-begun-2.true) ∙ ap not (eq-eqb l.state 25 p)))
    (some-begun-2 (goal.at.returns-then-state-begun-2 c).After-entry_of-then-state-begun-2))

pub returns-else-state-begun-2 : goal.returns-else-state-begun-2
returns-else-state-begun-2 c =
    let e : Else-turn-ne-FILE = (goal.at.returns-else-state-begun-2 c).Else-turn-ne-FILE in
    let d : After-loop-place = (goal.at.returns-else-state-begun-2 c).After-loop-place in
    let l = c.loop-place in
    accepting e l.entries
    (ends_on (all-bytes d) l.state l.begun l.line l.entries (so_far d) (file-ends e)
    (λ p q. true≢false (sym (both (ap not (ne_eqb l.state 25 p)) (lt-ltb 0 l.begun q)) ∙ c.if-state-begun-2.false)))
