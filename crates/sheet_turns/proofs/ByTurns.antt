-- THE SHEET COMES OUT THE SAME, in whatever parts its input comes: the lines that the program prints by turns are the lines of all its input.
use mathlib.Core.Bool.{Bool, true, false}
use mathlib.Core.List.{List, [], ◌∷◌, ◌++◌, append_assoc, append-nil}
use mathlib.Core.Path.{◌≡◌, refl, sym, ap, ap₂, ◌∙◌}
use Prim.Native.Nat.{ℕ, suc, ◌+◌, ◌-◌, ◌%◌, ◌^◌, ◌≤◌}
use native.Mathlib.Nat.{zero-add}
use native.Mathlib.Omega.{arith}
use lib.ListN.{length, drop, length-append}
use lib.Seq.{take-length, drop-append-le, length-take-le}
use borrow.Author.Tests.{eq-eqb, ne_eqb}
use Rattle.words.specs.Tests.{◌≤?◌}
use Rattle.words.specs.Rules.{Outcome}
use Rattle.words.specs.Lists.{join}
use Rattle.laws.proofs.Cases.{on, by-eq, or_right}
use Rattle.meaning.specs.Ledgers.{contracts}
use Rattle.meaning.specs.Books.{Book, opened_book}
use Rattle.meaning.specs.PackedCalls.{Run}
use Rattle.meaning.proofs.PackedSetupRules.{setup-reading-answer, setup-reading-done, setup-readable}
use Rattle.meaning.proofs.ReadMore.{field-stays, read-setup-more}
use Rattle.meaning.specs.SheetLines.{message_line, message_lines}
use Rattle.meaning.specs.Sheet.{slots, lent_for, read_first, run_over, lines_after_first, sheet_lines}
use Rattle.sheet_turns.specs.Turns.{first_line, line_for, waits, waits_for, count_told, told_count, told, goes, told_lines, seen_after, Turn, turn_of, then_turn, all_turns, printed}
use Rattle.sheet_turns.proofs.InParts.{in_two}

-- ---- the numbers of the lines go on from turn to turn

lines_at : (n m : ℕ) (outcomes : List Outcome) → n ≡ m → message_lines n outcomes ≡ message_lines m outcomes
lines_at n m outcomes e = rw e

told-on : (seen : ℕ) (xs ys : List Outcome) → told_lines seen (xs ++ ys) ≡ told_lines seen xs ++ told_lines (seen_after seen (length xs)) ys
unfolding told_lines seen_after message_lines
told-on seen [] ys = lines_at ((seen + 1) % 2 ^ 64) (((seen + 0) % 2 ^ 64 + 1) % 2 ^ 64) ys (omega arith)
told-on seen (x ∷ xs) ys =
    ap (λ (ls : List (List ℕ)). message_line ((seen + 1) % 2 ^ 64) x ∷ ls)
    (lines_at (((seen + 1) % 2 ^ 64 + 1) % 2 ^ 64) ((seen + 1 + 1) % 2 ^ 64) (xs ++ ys) (omega arith) ∙ told-on (seen + 1) xs ys
    ∙ ap₂ (λ (ls ms : List (List ℕ)). ls ++ ms)
    (lines_at ((seen + 1 + 1) % 2 ^ 64) (((seen + 1) % 2 ^ 64 + 1) % 2 ^ 64) xs (omega arith))
    (lines_at (((seen + 1 + length xs) % 2 ^ 64 + 1) % 2 ^ 64) (((seen + suc (length xs)) % 2 ^ 64 + 1) % 2 ^ 64) ys (omega arith)))

seen-on : (seen m n : ℕ) → seen_after (seen_after seen m) n ≡ seen_after seen (m + n)
unfolding seen_after
seen-on seen m n = omega arith

-- ---- what a turn tells

-- all outcomes, unless a message is waited for
told-all : (ended : Bool) (size : ℕ) (run : Run) → waits ended size run ≡ false → (told ended size run ≡ run.outcomes) × (told_count ended size run ≡ length run.outcomes)
unfolding told told_count count_told
told-all ended size run e = (rw e (take-length run.outcomes), rw e)

ended-waits : (size : ℕ) (run : Run) → waits true size run ≡ false
unfolding waits waits_for
ended-waits size run = refl

stopped-waits : (size : ℕ) (run : Run) → goes false size run ≡ false → waits false size run ≡ false
unfolding goes
stopped-waits size run e = or_right (size ≤? run.used) (waits false size run) e

-- as many as are counted
pub told-counted : (ended : Bool) (size : ℕ) (run : Run) → length (told ended size run) ≡ told_count ended size run
unfolding told told_count count_told
told-counted ended size run =
    on (waits ended size run)
    (λ e. rw e (length-take-le (length run.outcomes - 1) run.outcomes (omega arith)))
    (λ e. rw e (length-take-le (length run.outcomes) run.outcomes (omega arith)))

-- ---- all turns

pub record Told (before : ℕ) (run : Run) (t : Turn) : Type 0 where
  pub lines : t.lines ≡ told_lines before run.outcomes
  pub seen : t.seen ≡ seen_after before (length run.outcomes)
  pub book : t.book ≡ run.book

-- a turn that tells all
told-turn : (seen : ℕ) (b : Book contracts) (ended : Bool) (bytes : List ℕ) → waits ended (length bytes) (run_over b bytes) ≡ false
    → Told seen (run_over b bytes) (turn_of seen b ended bytes)
unfolding turn_of
told-turn seen b ended bytes e =
    let all = told-all ended (length bytes) (run_over b bytes) e in
    record { lines = ap (told_lines seen) all.0; seen = ap (seen_after seen) all.1; book = refl }

-- a turn, and those after it
module _ (seen : ℕ) (b : Book contracts) (bytes later : List ℕ) (rest : Turn) where
  abbrev run : Run
  run = run_over b bytes

  abbrev turn : Turn
  turn = turn_of seen b false bytes

  turn-then : Told turn.seen (run_over turn.book (turn.kept ++ later)) rest → Told seen (run_over b (bytes ++ later)) (then_turn turn rest)
  unfolding turn_of
  turn-then t =
      on (goes false (length bytes) run)
      (λ g.
      let whole = (in_two b bytes later).going g in
      let outcomes = told false (length bytes) run in
      let behind = run_over run.book (drop run.used bytes ++ later) in
      let counted = told-counted false (length bytes) run in
      rw (whole, g)
      (record {
        lines = ap (λ (ls : List (List ℕ)). told_lines seen outcomes ++ ls) (t.lines ∙ ap (λ (n : ℕ). told_lines (seen_after seen n) behind.outcomes) (sym counted)) ∙ sym (told-on seen outcomes behind.outcomes);
        seen = t.seen ∙ seen-on seen (told_count false (length bytes) run) (length behind.outcomes) ∙ ap (seen_after seen) (ap (λ (n : ℕ). n + length behind.outcomes) (sym counted) ∙ sym (length-append outcomes behind.outcomes));
        book = t.book;
      }))
      (λ g.
      let all = told-turn seen b false bytes (stopped-waits (length bytes) run g) in
      rw ((in_two b bytes later).ended g, g) (record { lines = all.lines; seen = all.seen; book = all.book }))

parts-behind : (kept part rest : List ℕ) (parts : List (List ℕ)) → (kept ++ part) ++ (join parts ++ rest) ≡ kept ++ (join (part ∷ parts) ++ rest)
unfolding join
parts-behind kept part rest parts = append_assoc kept part (join parts ++ rest) ∙ ap (λ (x : List ℕ). kept ++ x) (sym (append_assoc part (join parts) rest))

pub all_told : (seen : ℕ) (b : Book contracts) (kept : List ℕ) (parts : List (List ℕ)) (final : List ℕ)
    → Told seen (run_over b (kept ++ (join parts ++ final))) (all_turns seen b kept parts final)
unfolding all_turns join
all_told seen b kept [] final = told-turn seen b true (kept ++ final) (ended-waits (length (kept ++ final)) (run_over b (kept ++ final)))
all_told seen b kept (part ∷ parts) final =
    let t = turn_of seen b false (kept ++ part) in
    let rest = all_told t.seen t.book t.kept parts final in
    rw (← (parts-behind kept part final parts)) (turn-then seen b (kept ++ part) (join parts ++ final) (all_turns t.seen t.book t.kept parts final) rest)

-- ---- the first bytes

-- The first bytes are enough for the longest setup, or they are all that there is.
pub data Enough (first later : List ℕ) : Type 0 where
  many : 1247 ≤ length first → Enough first later
  all : later ≡ [] → Enough first later

first_read : (first later : List ℕ) → Enough first later → read_first (first ++ later) ≡ read_first first
unfolding read_first lent_for
first_read first later (many h) = rw (field-stays first later 16 4 (omega arith)) (read-setup-more first later h slots _ _)
first_read first later (all e) = rw (e, append-nil first)

first_fits : (first : List ℕ) → (read_first first).answer ≡ 0 → (read_first first).length ≤ length first
unfolding read_first
first_fits first e =
    let a = sym (setup-reading-answer first slots (lent_for first) (lent_for first)) ∙ e in
    rw (setup-reading-done first slots (lent_for first) (lent_for first) a) (setup-readable first slots (lent_for first) (lent_for first) a).whole

-- ---- the sheet

pub printed-sheet : (first : List ℕ) (parts : List (List ℕ)) (final : List ℕ) → Enough first (join parts ++ final)
    → printed first parts final ≡ sheet_lines (first ++ (join parts ++ final))
unfolding printed sheet_lines first_line line_for lines_after_first told_lines seen_after
printed-sheet first parts final h =
    let r = read_first first in
    let later = join parts ++ final in
    let opened = opened_book contracts r.read slots in
    let same = first_read first later h in
    by-eq r.answer 0
    (λ e.
    let t = all_told 0 opened (drop r.length first) parts final in
    let behind : drop r.length (first ++ later) ≡ drop r.length first ++ later = drop-append-le r.length first later (first_fits first e) in
    rw (same, eq-eqb r.answer 0 e, behind, t.lines, t.book, t.seen, zero-add (length (run_over opened (drop r.length first ++ later)).outcomes)))
    (λ n. rw (same, ne_eqb r.answer 0 n))
