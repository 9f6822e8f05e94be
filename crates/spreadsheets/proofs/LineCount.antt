-- How many lines a text has, counted by the bytes that begin one.
use mathlib.Core.Bool.{Bool, true, false}
use mathlib.Core.List.{List, [], ◌∷◌, ◌++◌}
use mathlib.Core.Path.{◌≡◌, refl, ap, ◌∙◌}
use Prim.Native.Nat.{ℕ, suc, ◌+◌, ◌-◌}
use native.Mathlib.Nat.{zero-add}
use native.Mathlib.Omega.{arith}
use lib.ListN.{length, drop, length-drop, length-map}
use Rattle.std.specs.Prelude.{if◌then◌else◌}
use Rattle.words.specs.Tests.{◌=?◌}
use Rattle.laws.proofs.Cases.{on}
use Rattle.spreadsheets.specs.Entries.{as_line, lines_after, lines_of, entries, entry_of}
use Rattle.spreadsheets.proofs.Lines.{current, current_from, is_nil, snoc-nil}

-- the lines begun: a byte begins one at the start and after LF
unfoldable pub begun_from : Bool → List ℕ → ℕ
begun_from fresh [] = 0
begun_from fresh (b ∷ s) = (if fresh then 1 else 0) + begun_from (b =? 10) s

-- after the text a line would begin
unfoldable pub ends_fresh : Bool → List ℕ → Bool
ends_fresh fresh [] = fresh
ends_fresh fresh (b ∷ s) = ends_fresh (b =? 10) s

pub ends_snoc : (fresh : Bool) (u : List ℕ) (b : ℕ) → ends_fresh fresh (u ++ (b ∷ [])) ≡ (b =? 10)
unfolding ends_fresh
ends_snoc fresh [] b = refl
ends_snoc fresh (c ∷ u) b = ends_snoc (c =? 10) u b

pub begun-append : (fresh : Bool) (u v : List ℕ) → begun_from fresh (u ++ v) ≡ begun_from fresh u + begun_from (ends_fresh fresh u) v
unfolding begun_from ends_fresh
begun-append fresh [] v = omega arith
begun-append fresh (b ∷ u) v = omega (arith, begun-append (b =? 10) u v)

as_line_lem : (line : List ℕ) → length (as_line line) ≡ (if is_nil line then 0 else 1)
unfolding is_nil
as_line_lem [] = refl
as_line_lem (b ∷ line) = refl

-- a line that has begun counts from the start
lines-begun : (line s : List ℕ) → length (lines_after line s) ≡ (if is_nil line then 0 else 1) + begun_from (is_nil line) s
unfolding lines_after begun_from is_nil
lines-begun line [] = as_line_lem line ∙ omega arith
lines-begun line (b ∷ s) =
    on (b =? 10)
    (λ e. rw e (count-one (is_nil line) (lines-begun [] s ∙ zero-add (begun_from true s))))
    (λ e. rw e (count-two (is_nil line) (length (lines_after (line ++ (b ∷ [])) s)) (begun_from false s) (rw (snoc-nil line b) at (lines-begun (line ++ (b ∷ [])) s))))
  where
    count-one : (t : Bool) {m n : ℕ} → m ≡ n → suc m ≡ (if t then 0 else 1) + ((if t then 1 else 0) + n)
    count-one true e = omega arith
    count-one false e = omega arith

    count-two : (t : Bool) (m n : ℕ) → m ≡ 1 + n → m ≡ (if t then 0 else 1) + ((if t then 1 else 0) + n)
    count-two true m n e = omega arith
    count-two false m n e = omega arith

pub lines-length : (s : List ℕ) → length (lines_of s) ≡ begun_from true s
unfolding lines_of is_nil
lines-length s = lines-begun [] s ∙ omega arith

pub entries-length : (s : List ℕ) → length (entries s) ≡ begun_from true s - 1
unfolding entries
entries-length s = length-map (drop 1 (lines_of s)) entry_of ∙ omega (arith, length-drop 1 (lines_of s), lines-length s)

nil-after : (line u : List ℕ) → is_nil (current_from line u) ≡ ends_fresh (is_nil line) u
unfolding current_from ends_fresh is_nil
nil-after line [] = refl
nil-after line (b ∷ u) =
    on (b =? 10)
    (λ e. rw e (nil-after [] u))
    (λ e. rw e (nil-after (line ++ (b ∷ [])) u ∙ ap (λ (t : Bool). ends_fresh t u) (snoc-nil line b)))

pub nil-ends : (u : List ℕ) → is_nil (current u) ≡ ends_fresh true u
unfolding is_nil
nil-ends u = nil-after [] u
