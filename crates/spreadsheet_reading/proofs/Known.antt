-- What the table's state and the number of entries begun tell of the bytes read so far; that each byte that goes on, and the end, keep it.
use mathlib.Core.Bool.{Bool, true, false, not, ◌&&◌, true≢false}
use mathlib.Core.List.{List, [], ◌∷◌, ◌++◌, map, append-nil}
use mathlib.Core.Path.{◌≡◌, refl, sym, ap, ◌∙◌, subst}
use Prim.Native.Nat.{ℕ, zero, suc, ◌+◌, ◌-◌, ◌*◌, ◌^◌, ◌≤◌, ◌<◌}
use native.Mathlib.Numerals.{add-one}
use native.Mathlib.Omega.{arith}
use lib.IntN.{pos, neg_ℤ, nat_abs}
use lib.ListN.{length, take, drop, get_or, length-append}
use lib.Seq.{take-suc}
use borrow.Author.Tests.{eq-eqb, ne_eqb, le-leb}
use Rattle.words.specs.Lists.{every}
use Rattle.std.specs.Prelude.{if◌then◌else◌}
use Rattle.words.specs.Tests.{◌=?◌}
use Rattle.laws.proofs.Cases.{by-eq, or_left, both}
use Rattle.laws.proofs.Lists.{every_append}
use Rattle.meaning.specs.Ledgers.{contracts}
use Rattle.meaning.specs.Messages.{Entry}
use Rattle.spreadsheets.specs.Entries.{as_line, lines_of, kwh, entry_of, entries}
use Rattle.spreadsheets.specs.Writing.{writable}
use Rattle.spreadsheets.proofs.Lines.{closed, current, closed_from, current_from, lines_are, closed-snoc, is_nil, full-line, no_line}
use Rattle.spreadsheets.proofs.LineCount.{nil-ends, lines-length}
use Rattle.spreadsheet_reading.specs.Machine.{column_of, turn_at, state_in}
use Rattle.spreadsheet_reading.specs.Feeding.{entry_from, line_of, InRange}
use Rattle.spreadsheet_reading.proofs.RightTables.{column-small, column-line}
use Rattle.spreadsheet_reading.proofs.TableTests.{fresh}
use Rattle.spreadsheet_reading.proofs.Reached.{At, at-start, turn-new, turn-old, file-later}
use Rattle.spreadsheet_reading.proofs.Feeds.{entry-from}
use Rattle.spreadsheet_reading.proofs.Shapes.{shape_at, knows, line-ends}
use Rattle.spreadsheet_reading.proofs.Bounds.{Bound, bound-start, bound-next, in-range}

-- ---- the entries of the lines that have ended; the first line is the header

abbrev pub entries_behind : List (List ℕ) → List (Entry contracts)
entries_behind lines = map entry_of (drop 1 lines)

unfoldable pub ended : List ℕ → List (Entry contracts)
ended u = entries_behind (closed u)

pub entries-more : (lines : List (List ℕ)) (w : List ℕ) → map entry_of (lines ++ (w ∷ [])) ≡ map entry_of lines ++ (entry_of w ∷ [])
entries-more [] w = refl
entries-more (line ∷ lines) w = ap (λ (es : List (Entry contracts)). entry_of line ∷ es) (entries-more lines w)

-- ---- entries in range can be written

size_of : (minus : Bool) (n : ℕ) → nat_abs (if minus then neg_ℤ (pos n) else pos n) ≡ n
size_of true zero = refl
size_of true (suc n) = refl
size_of false n = refl

line-writable : (w : List ℕ) → InRange (line_of w) → writable (entry_of w) ≡ true
unfolding writable entry_from kwh
line-writable w r =
    let line = line_of w in
    let n = line.size * 10 ^ (3 - line.decimals) in
    subst (λ (e : Entry contracts). writable e ≡ true) (entry-from w)
    (both (le-leb line.period 99 (omega (arith, r.period-range)))
    (rw (size_of line.minus n) (le-leb n 99999999 (omega (arith, r.size-range)))))

one_more : (lines : List (List ℕ)) (w : List ℕ) → every writable (entries_behind lines) ≡ true → writable (entry_of w) ≡ true
    → every writable (entries_behind (lines ++ (w ∷ []))) ≡ true
unfolding every
one_more [] w p q = refl
one_more (header ∷ lines) w p q = rw (entries-more lines w) (every_append writable (map entry_of lines) (entry_of w ∷ []) p (both q refl))

-- ---- what is known

pub record Known (u : List ℕ) (state begun : ℕ) : Type 0 where
  pub reached : At u state begun
  pub few : begun ≤ 50
  pub bound : Bound (line_of (current u)) (shape_at state) (knows state)
  pub in-range-so-far : every writable (ended u) ≡ true

pub known_start : Known [] 0 0
unfolding closed_from current_from ended every
known_start = record { reached = at-start; few = omega arith; bound = bound-start; in-range-so-far = refl }

module _ (u : List ℕ) (state begun : ℕ) (k : Known u state begun) where
  line-fine : writable (entry_of (current u)) ≡ true
  line-fine = line-writable (current u) (in-range state k.reached.small (line_of (current u)) k.bound)

  -- where a line has begun, as many have ended as entries have begun
  pub ended-begun : fresh state ≡ false → begun ≡ length (closed u)
  ended-begun f =
      let n : is_nil (current u) ≡ false = nil-ends u ∙ k.reached.ends ∙ f in
      let a : length (lines_of u) ≡ length (closed u) + 1 = ap length (lines_are u) ∙ rw (full-line (current u) n, length-append) in
      let z : (state =? 0) ≡ false = or_left (state =? 0) (state =? 25) f in
      omega (arith, lines-length u, a, rw z at k.reached.lines)

  last-fine : every writable (entries_behind (closed u ++ (current u ∷ []))) ≡ true
  unfolding ended
  last-fine = one_more (closed u) (current u) k.in-range-so-far line-fine

-- ---- one byte more

module _ (s : List ℕ) (i state begun turn : ℕ) (h : i < length s) (byte : get_or s i 0 < 256) (k : Known (take i s) state begun)
    (e : turn ≡ turn_at state (column_of (get_or s i 0))) (live : 65 ≤ turn) (room : state ≡ 25 → begun ≡ 50 → ⊥) where
  abbrev u : List ℕ
  u = take i s

  abbrev b : ℕ
  b = get_or s i 0

  pub more : take (i + 1) s ≡ u ++ (b ∷ [])
  more = rw add-one (take-suc s i 0 h)

  abbrev pub begun-next : ℕ
  begun-next = if state =? 25 then begun + 1 else begun

  -- a line ends only where one has begun
  pub at-line-end : b ≡ 10 → fresh state ≡ false
  at-line-end q =
      go (fresh state) (column_of b =? 15) (line-ends state (column_of b) k.reached.small (column-small b byte) (omega (arith, e)))
      (sym (column-line b byte) ∙ eq-eqb b 10 q)
    where
      go : (x y : Bool) → not (x && y) ≡ true → y ≡ true → x ≡ false
      go true y f g = absurd (true≢false (sym f ∙ ap (λ (t : Bool). not t) g))
      go false y f g = refl

  pub ended-next : b ≡ 10 → entries_behind (closed u ++ (current u ∷ [])) ≡ ended (take (i + 1) s)
  unfolding ended
  ended-next q = rw (more, closed-snoc u b) (rw (eq-eqb b 10 q))

  pub ended_same : (b ≡ 10 → ⊥) → ended u ≡ ended (take (i + 1) s)
  unfolding ended
  ended_same q = rw (more, closed-snoc u b) (rw (ne_eqb b 10 q, append-nil (closed u)))

  reached-next : At (take (i + 1) s) (state_in turn) begun-next
  reached-next =
      by-eq state 25
      (λ f. rw (eq-eqb state 25 f) (turn-new s i state begun turn h byte k.reached e live f))
      (λ n. rw (ne_eqb state 25 n) (turn-old s i state begun turn h byte k.reached e live n))

  few-next : begun-next ≤ 50
  few-next =
      by-eq state 25
      (λ f. rw (eq-eqb state 25 f) (by-eq begun 50 (λ m. absurd (room f m)) (λ m. omega (arith, k.few))))
      (λ n. rw (ne_eqb state 25 n) k.few)

  pub known_next : Known (take (i + 1) s) (state_in turn) begun-next
  known_next =
      record {
        reached = reached-next;
        few = few-next;
        bound = rw (more, e) (bound-next u state b k.reached.small byte (omega (arith, e)) k.bound);
        in-range-so-far =
            by-eq b 10
            (λ q. subst (λ (es : List (Entry contracts)). every writable es ≡ true) (ended-next q) (last-fine u state begun k))
            (λ q. subst (λ (es : List (Entry contracts)). every writable es ≡ true) (ended_same q) k.in-range-so-far);
      }

-- ---- the end

module _ (s : List ℕ) (state begun : ℕ) (k : Known s state begun) (e : turn_at state 18 ≡ 46) where
  entries-are : entries s ≡ entries_behind (closed s ++ as_line (current s))
  unfolding entries
  entries-are = ap entries_behind (lines_are s)

  -- the last line has no line end
  pub line-begun : (state ≡ 25 → ⊥) → fresh state ≡ false
  line-begun n = rw (file-later state e, ne_eqb state 25 n)

  pub entries-open : (state ≡ 25 → ⊥) → entries_behind (closed s ++ (current s ∷ [])) ≡ entries s
  entries-open n =
      sym (entries-are ∙ ap (λ (ls : List (List ℕ)). entries_behind (closed s ++ ls)) (full-line (current s) (nil-ends s ∙ k.reached.ends ∙ line-begun n)))

  -- it has one
  pub entries-ended : state ≡ 25 → ended s ≡ entries s
  unfolding ended
  entries-ended q =
      let f : fresh state ≡ true = rw q in
      sym (entries-are ∙ ap (λ (ls : List (List ℕ)). entries_behind (closed s ++ ls)) (no_line (current s) (nil-ends s ∙ k.reached.ends ∙ f))
      ∙ ap entries_behind (append-nil (closed s)))

  pub entries-fine : every writable (entries s) ≡ true
  entries-fine =
      by-eq state 25
      (λ q. subst (λ (es : List (Entry contracts)). every writable es ≡ true) (entries-ended q) k.in-range-so-far)
      (λ n. subst (λ (es : List (Entry contracts)). every writable es ≡ true) (entries-open n) (last-fine s state begun k))
