-- The state that the table has reached after the bytes read so far: what may follow them, and how many entries they have begun.
use mathlib.Core.Bool.{Bool, true, false}
use mathlib.Core.List.{List, [], ◌∷◌, ◌++◌}
use mathlib.Core.Path.{◌≡◌, refl, sym, ap, ◌∙◌, subst}
use Prim.Native.Nat.{ℕ, ◌+◌, ◌-◌, ◌≤◌, ◌<◌}
use native.Mathlib.Omega.{arith}
use native.Mathlib.Numerals.{add-one}
use lib.ListN.{length, take, get_or}
use lib.Seq.{take-suc}
use borrow.Author.Tests.{ne_eqb}
use Rattle.words.specs.Lists.{join}
use Rattle.std.specs.Prelude.{if◌then◌else◌}
use Rattle.words.specs.Tests.{◌=?◌}
use Rattle.laws.proofs.Cases.{on}
use Rattle.patterns.specs.Patterns.{Pattern, Matches}
use Rattle.spreadsheets.specs.Languages.{number_file}
use Rattle.spreadsheets.specs.Entries.{before, entries}
use Rattle.spreadsheets.specs.Refusals.{Language, csv, table, numbers, valid, number, File, Begins}
use Rattle.spreadsheet_reading.specs.Machine.{rows, turn_table, beginning_of, column_of, turn_at, state_in}
use Rattle.patterns.proofs.Derivatives.{nullable, possible, example, is_never, derive, derives}
use Rattle.patterns.proofs.Forms.{never-none}
use Rattle.patterns.proofs.Follows.{derives-in, derives-out, derives-snoc, example-in, matches-is, matches-not}
use Rattle.spreadsheet_reading.proofs.RightTables.{column-small, column-line, derive-sample, state-possible, state-uniform, state-lines, onward-is, next_small, next-later, next-line}
use Rattle.spreadsheet_reading.proofs.TableTests.{pattern_of, left, onward, fresh}
use Rattle.spreadsheets.proofs.LineCount.{begun_from, ends_fresh, ends_snoc, begun-append, entries-length}

-- the bytes u bring the table to this state, with so many entries begun
pub record At (u : List ℕ) (state begun : ℕ) : Type 0 where
  pub small : state < 55
  pub follows : (l : Language) → number l < 32 → derives u (pattern_of l) ≡ left l state
  pub lines : begun_from true u ≡ begun + (if state =? 0 then 0 else 1)
  pub ends : ends_fresh true u ≡ fresh state

pub at-start : At [] 0 0
unfolding derives left beginning_of rows before begun_from ends_fresh
at-start = record { small = omega arith; follows = λ l h. refl; lines = refl; ends = refl }

-- ---- languages and their patterns

file-matches : (l : Language) (s : List ℕ) → File l s → Matches (pattern_of l) s
file-matches csv s m = m
file-matches table s m = m
file-matches numbers s m = m
file-matches valid s m = m.0

matches-file : (l : Language) → number l < 32 → (s : List ℕ) → Matches (pattern_of l) s → File l s
matches-file csv h s m = m
matches-file table h s m = m
matches-file numbers h s m = m
matches-file valid h s m = absurd (omega arith)

module _ (u : List ℕ) where
  -- nothing is left to follow
  pub none-begins : (l : Language) → is_never (derives u (pattern_of l)) ≡ true → Begins l u → ⊥
  none-begins l e g = never-none (derives u (pattern_of l)) e g.0 (derives-in u (pattern_of l) g.0 (file-matches l (u ++ g.0) g.1))

  pub some-begins : (l : Language) → number l < 32 → possible (derives u (pattern_of l)) ≡ true → Begins l u
  some-begins l h e =
      let p = derives u (pattern_of l) in
      (example p, matches-file l h (u ++ example p) (derives-out u (pattern_of l) (example p) (example-in p e)))

  pub is-file : (l : Language) → number l < 32 → nullable (derives u (pattern_of l)) ≡ true → File l u
  is-file l h e = matches-file l h u (matches-is (pattern_of l) u e)

  pub no-file : (l : Language) → nullable (derives u (pattern_of l)) ≡ false → File l u → ⊥
  no-file l e f = matches-not (pattern_of l) u e (file-matches l u f)

-- ---- one byte more

module _ (u : List ℕ) (state begun b : ℕ) (a : At u state begun) (h : b < 256) where
  pub onward-follows : (l : Language) → number l < 32 → derives (u ++ (b ∷ [])) (pattern_of l) ≡ onward state (column_of b) l
  unfolding onward
  onward-follows l k =
      derives-snoc u b (pattern_of l) ∙ ap (derive b) (a.follows l k) ∙ derive-sample b h (left l state) (state-uniform state a.small l k)

  pub more-lines : begun_from true (u ++ (b ∷ [])) ≡ begun_from true u + (if fresh state then 1 else 0)
  unfolding begun_from
  more-lines = begun-append true u (b ∷ []) ∙ rw a.ends (omega arith)

  module _ (live : 65 ≤ turn_at state (column_of b)) where
    abbrev next : ℕ
    next = state_in (turn_at state (column_of b))

    pub next-follows : (l : Language) → number l < 32 → derives (u ++ (b ∷ [])) (pattern_of l) ≡ left l next
    next-follows l k = onward-follows l k ∙ onward-is state a.small (column_of b) (column-small b h) live l k

    next-ends : ends_fresh true (u ++ (b ∷ [])) ≡ fresh next
    next-ends =
        ends_snoc true u b ∙ column-line b h ∙ sym (next-line state a.small (column_of b) (column-small b h) live)
        ∙ sym (rw (next-later state a.small (column_of b) (column-small b h) live))

    pub at_new : state ≡ 25 → At (u ++ (b ∷ [])) next (begun + 1)
    at_new e =
        let f : fresh state ≡ true = rw e in
        let z : (state =? 0) ≡ false = rw e in
        record {
          small = next_small state a.small (column_of b) (column-small b h) live;
          follows = next-follows;
          lines = more-lines ∙ rw (next-later state a.small (column_of b) (column-small b h) live) (rw f (omega (arith, rw z at a.lines)));
          ends = next-ends;
        }

    pub at_old : (state ≡ 25 → ⊥) → At (u ++ (b ∷ [])) next begun
    at_old n =
        record {
          small = next_small state a.small (column_of b) (column-small b h) live;
          follows = next-follows;
          lines =
              more-lines
              ∙ rw (next-later state a.small (column_of b) (column-small b h) live, ne_eqb state 25 n)
              (on (state =? 0) (λ z. rw z (omega (arith, rw z at a.lines))) (λ z. rw z (omega (arith, rw z at a.lines))));
          ends = next-ends;
        }

-- ---- the entries of what goes on

has_room : (start : Bool) {all now later begun : ℕ} → now ≡ begun + (if start then 0 else 1) → later ≤ (if start then 1 else 0) → all ≡ now + later
    → begun ≤ 50 → all - 1 ≤ 50
has_room true e l t few = omega arith
has_room false e l t few = omega arith

-- some valid file begins so
pub valid-begins : (u : List ℕ) (state begun : ℕ) → At u state begun → begun ≤ 50 → Begins valid u
valid-begins u state begun a few =
    let p = left numbers state in
    let rest = example p in
    let m : Matches (derives u number_file) rest =
    subst (λ (q : Pattern). Matches q rest) (sym (a.follows numbers (omega arith))) (example-in p (state-possible state a.small numbers (omega arith))) in
    let more : begun_from true (u ++ rest) ≡ begun_from true u + begun_from (fresh state) rest = begun-append true u rest ∙ rw a.ends in
    let room : begun_from true (u ++ rest) - 1 ≤ 50 = has_room (state =? 0) a.lines (state-lines state a.small) more few in
    (rest, (derives-out u number_file rest m, omega (arith, entries-length (u ++ rest))))

pub few-entries : (u : List ℕ) (state begun : ℕ) → At u state begun → begun ≤ 50 → length (entries u) ≤ 50
few-entries u state begun a few =
    on (state =? 0)
    (λ z. omega (arith, entries-length u, rw z at a.lines))
    (λ z. omega (arith, entries-length u, rw z at a.lines))

-- ---- a turn of the loop

module _ (s : List ℕ) (i state begun turn : ℕ) (h : i < length s) (byte : get_or s i 0 < 256) (a : At (take i s) state begun)
    (e : turn ≡ turn_at state (column_of (get_or s i 0))) (live : 65 ≤ turn) where
  pub turn-new : state ≡ 25 → At (take (i + 1) s) (state_in turn) (begun + 1)
  turn-new f = rw (add-one, take-suc s i 0 h, e) (at_new (take i s) state begun (get_or s i 0) a byte (omega arith) f)

  pub turn-old : (state ≡ 25 → ⊥) → At (take (i + 1) s) (state_in turn) begun
  turn-old f = rw (add-one, take-suc s i 0 h, e) (at_old (take i s) state begun (get_or s i 0) a byte (omega arith) f)

start-turn : turn_at 0 18 ≡ 48
unfolding turn_at turn_table rows join
start-turn = refl

start-refuses : turn_at 0 18 ≡ 46 → ⊥
start-refuses q = omega (arith, start-turn)

-- a file does not end in the first state
pub file-later : (state : ℕ) → turn_at state 18 ≡ 46 → (state =? 0) ≡ false
file-later state e = ne_eqb state 0 (λ z. start-refuses (ap (λ (n : ℕ). turn_at n 18) (sym z) ∙ e))

-- a file has begun as many entries as it has
pub file-entries : (s : List ℕ) (state begun : ℕ) → At s state begun → turn_at state 18 ≡ 46 → length (entries s) ≡ begun
file-entries s state begun a e = omega (arith, entries-length s, rw (file-later state e) at a.lines)
