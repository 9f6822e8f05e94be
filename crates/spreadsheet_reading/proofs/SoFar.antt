-- What the reader has kept of the bytes read so far, the line and the array of entries, and that each turn of its loop, and its end, keep it.
use mathlib.Core.Bool.{false}
use mathlib.Core.List.{List, [], ◌∷◌, ◌++◌, map}
use mathlib.Core.Path.{◌≡◌, refl, sym, ap, ◌∙◌}
use Prim.Native.Nat.{ℕ, ◌+◌, ◌-◌, ◌≤◌, ◌<◌}
use native.Mathlib.Omega.{arith}
use lib.ListN.{length, take, get_or, set, length-set, length-map}
use lib.Seq.{get_or-set_same, get_or-set_other}
use borrow.Author.Tests.{lt-ltb, le-ltb}
use Rattle.words.specs.Lists.{build}
use Rattle.std.specs.Prelude.{if◌then◌else◌}
use Rattle.words.specs.Tests.{◌<?◌, ◌=?◌}
use Rattle.laws.proofs.Builds.{is-build, length-build, get_or-build}
use Rattle.laws.proofs.Cases.{on, by-lt, by-eq, or_right}
use Rattle.laws.proofs.Lists.{get_or-snoc, get_or-snoc-other}
use Rattle.meaning.specs.Ledgers.{contracts}
use Rattle.meaning.specs.Messages as Meaning
use Rattle.messages.specs.Structs.{no_entry, no_entry_meant, entry_for}
use Rattle.messages.specs.declared.Entry.{Entry}
use Rattle.spreadsheets.specs.Entries.{entry_of, entries}
use Rattle.spreadsheets.specs.Structs.{spreadsheet_for}
use Rattle.spreadsheets.specs.declared.Spreadsheet.{Spreadsheet}
use Rattle.spreadsheets.proofs.Lines.{closed, current, closed_from, current_from, current-snoc}
use Rattle.spreadsheet_reading.specs.declared.lines.Line.{Line}
use Rattle.spreadsheet_reading.specs.Machine.{column_of, turn_at, state_in}
use Rattle.spreadsheet_reading.specs.Feeding.{blank_line, line_after, entry_from, line_of, Small, InRange}
use Rattle.spreadsheet_reading.proofs.TableTests.{fresh}
use Rattle.spreadsheet_reading.proofs.Reached.{file-entries}
use Rattle.spreadsheet_reading.proofs.Feeds.{line-blank, fed-line, entry-from}
use Rattle.spreadsheet_reading.proofs.Bounds.{small, in-range}
use Rattle.spreadsheet_reading.proofs.Known.{entries_behind, ended, entries-more, Known, known_start, ended-begun, more, at-line-end, ended-next, ended_same, known_next, line-begun, entries-open, entries-ended}

-- ---- entries as an array of structs

abbrev pub structs : List (Meaning.Entry contracts) → List Entry
structs es = build 50 (λ (k : ℕ). entry_for (get_or es k no_entry_meant))

structs-more : (es : List (Meaning.Entry contracts)) (e : Meaning.Entry contracts) → length es < 50
    → set (structs es) (length es) (entry_for e) ≡ structs (es ++ (e ∷ []))
structs-more es e h =
    is-build 50 (λ (k : ℕ). entry_for (get_or (es ++ (e ∷ [])) k no_entry_meant)) no_entry (set (structs es) (length es) (entry_for e))
    (length-set (structs es) (length es) (entry_for e) ∙ length-build 50 (λ (k : ℕ). entry_for (get_or es k no_entry_meant)))
    (λ k l. by-eq k (length es)
    (λ q. rw (q, get_or-snoc es e no_entry_meant)
    (get_or-set_same (structs es) (length es) (entry_for e) no_entry (omega (arith, length-build 50 (λ (k : ℕ). entry_for (get_or es k no_entry_meant))))))
    (λ n. get_or-set_other (structs es) (length es) k (entry_for e) no_entry n
    ∙ get_or-build 50 (λ (k : ℕ). entry_for (get_or es k no_entry_meant)) no_entry k l
    ∙ ap entry_for (sym (get_or-snoc-other es e no_entry_meant k n))))

-- the array with the entry of a line that ends, where so many entries have begun; of the first, the header, there is none
kept_more : (lines : List (List ℕ)) (w : List ℕ) (begun : ℕ) → begun ≡ length lines → begun ≤ 50
    → (if 0 <? begun then set (structs (entries_behind lines)) (begun - 1) (entry_for (entry_of w)) else structs (entries_behind lines))
    ≡ structs (entries_behind (lines ++ (w ∷ [])))
kept_more [] w begun e h = rw e
kept_more (header ∷ lines) w begun e h =
    let es = map entry_of lines in
    let p : begun - 1 ≡ length es = omega (arith, length-map lines entry_of) in
    let q : length es < 50 = omega (arith, length-map lines entry_of) in
    rw (lt-ltb 0 begun (omega arith), p) (structs-more es (entry_of w) q ∙ ap structs (sym (entries-more lines w)))

-- ---- so far

pub record SoFar (u : List ℕ) (state begun : ℕ) (line : Line) (kept : List Entry) : Type 0 where
  pub known : Known u state begun
  pub is-line : line ≡ line_of (current u)
  pub is-kept : kept ≡ structs (ended u)

pub nothing_yet : SoFar [] 0 0 blank_line (structs [])
unfolding closed_from current_from ended
nothing_yet = record { known = known_start; is-line = line-blank; is-kept = refl }

module _ (u : List ℕ) (state begun : ℕ) (line : Line) (kept : List Entry) (r : SoFar u state begun line kept) where
  pub line_small : Small line
  line_small = rw r.is-line (small state r.known.reached.small (line_of (current u)) r.known.bound)

  pub line-in-range : InRange line
  line-in-range = rw r.is-line (in-range state r.known.reached.small (line_of (current u)) r.known.bound)

  entry-is : entry_from line ≡ entry_of (current u)
  entry-is = ap entry_from r.is-line ∙ entry-from (current u)

  -- the array with the entry of the line so far, which is its last
  last-kept : fresh state ≡ false
      → (if 0 <? begun then set kept (begun - 1) (entry_for (entry_from line)) else kept) ≡ structs (entries_behind (closed u ++ (current u ∷ [])))
  unfolding ended
  last-kept f =
      (λ i. if 0 <? begun then set (r.is-kept i) (begun - 1) (entry_for (entry-is i)) else r.is-kept i)
      ∙ kept_more (closed u) (current u) begun (ended-begun u state begun r.known f) r.known.few

-- ---- one byte more

module _ (s : List ℕ) (i state begun turn : ℕ) (line : Line) (kept : List Entry) (h : i < length s) (byte : get_or s i 0 < 256)
    (r : SoFar (take i s) state begun line kept) (e : turn ≡ turn_at state (column_of (get_or s i 0))) (live : 65 ≤ turn)
    (room : state ≡ 25 → begun ≡ 50 → ⊥) where
  abbrev u : List ℕ
  u = take i s

  abbrev b : ℕ
  b = get_or s i 0

  abbrev begun-next : ℕ
  begun-next = if state =? 25 then begun + 1 else begun

  now-known : Known (take (i + 1) s) (state_in turn) begun-next
  now-known = known_next s i state begun turn h byte r.known e live room

  line-next : line_after line b ≡ line_of (current (take (i + 1) s))
  unfolding line_after
  line-next =
      on (b =? 10)
      (λ q. rw (q, more s i state begun turn h byte r.known e live room, current-snoc u b) (rw q line-blank))
      (λ q. rw (q, more s i state begun turn h byte r.known e live room, current-snoc u b) (rw (q, r.is-line) (fed-line (current u) b)))

  kept_next : b ≡ 10 → (if 0 <? begun-next then set kept (begun-next - 1) (entry_for (entry_from line)) else kept) ≡ structs (ended (take (i + 1) s))
  kept_next q =
      let f = at-line-end s i state begun turn h byte r.known e live room q in
      rw (or_right (state =? 0) (state =? 25) f)
      (last-kept u state begun line kept r f ∙ ap structs (ended-next s i state begun turn h byte r.known e live room q))

  -- with what the code has for each of these
  pub few-now : (now-begun : ℕ) → now-begun ≡ begun-next → now-begun ≤ 50
  few-now now-begun p = omega (arith, p, now-known.few)

  module _ (now-begun : ℕ) (now-line : Line) (p : now-begun ≡ begun-next) (q : now-line ≡ line_after line b) where
    -- a line ends, and its entry is kept
    pub kept_on : (entry : Entry) → entry ≡ entry_for (entry_from line) → b ≡ 10 → 0 < now-begun
        → SoFar (take (i + 1) s) (state_in turn) now-begun now-line (set kept (now-begun - 1) entry)
    kept_on entry f z w =
        rw (p, q, f) (record { known = now-known; is-line = line-next; is-kept = sym (rw (lt-ltb 0 begun-next (omega (arith, p)))) ∙ kept_next z })

    -- no line ends, or the header does
    pub read-on : (b ≡ 10 → 0 < now-begun → ⊥) → SoFar (take (i + 1) s) (state_in turn) now-begun now-line kept
    read-on n =
        let is : kept ≡ structs (ended (take (i + 1) s)) =
        by-eq b 10
        (λ z. by-lt 0 begun-next (λ w. absurd (n z (omega (arith, p)))) (λ w. sym (rw (le-ltb 0 begun-next w)) ∙ kept_next z))
        (λ z. r.is-kept ∙ ap structs (ended_same s i state begun turn h byte r.known e live room z)) in
        rw (p, q) (record { known = now-known; is-line = line-next; is-kept = is })

-- ---- the end

module _ (s : List ℕ) (state begun : ℕ) (line : Line) (kept : List Entry) (r : SoFar s state begun line kept) (e : turn_at state 18 ≡ 46) where
  last_line : (state ≡ 25 → ⊥) → (if 0 <? begun then set kept (begun - 1) (entry_for (entry_from line)) else kept) ≡ structs (entries s)
  last_line n = last-kept s state begun line kept r (line-begun s state begun r.known e n) ∙ ap structs (entries-open s state begun r.known e n)

  no-last-line : state ≡ 25 → kept ≡ structs (entries s)
  no-last-line q = r.is-kept ∙ ap structs (entries-ended s state begun r.known e q)

  abbrev made : List Entry → Spreadsheet
  made es = record { count = begun; entries = es }

  is_made : (es : List Entry) → es ≡ structs (entries s) → made es ≡ spreadsheet_for (entries s)
  unfolding spreadsheet_for
  is_made es q = let n = sym (file-entries s state begun r.known.reached e) in λ i. record { count = n i; entries = q i }

  pub ends-kept : (entry : Entry) → entry ≡ entry_for (entry_from line) → (state ≡ 25 → ⊥) → 0 < begun → made (set kept (begun - 1) entry) ≡ spreadsheet_for (entries s)
  ends-kept entry f n w = rw f (is_made (set kept (begun - 1) (entry_for (entry_from line))) (sym (rw (lt-ltb 0 begun w)) ∙ last_line n))

  pub ends_on : ((state ≡ 25 → ⊥) → 0 < begun → ⊥) → made kept ≡ spreadsheet_for (entries s)
  ends_on n =
      is_made kept
      (by-eq state 25 no-last-line (λ q. by-lt 0 begun (λ w. absurd (n q w)) (λ w. sym (rw (le-ltb 0 begun w)) ∙ last_line q)))
