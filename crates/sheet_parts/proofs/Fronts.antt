-- WHAT IS PRINTED IS THE TEXT: where lines are short and few, the front of the buffer that they are placed in is them, one after the other.
use Rattle.std.proofs.Common.{◌≡◌, ℕ, ◌+◌, ◌*◌, ◌≤◌, List, [], ◌∷◌, length, take, ◌∙◌, ap₂, append-nil, suc-mul, zero-add, arith, length-append}
use lib.Seq.{sets, take-length}
use Rattle.words.specs.Lists.{join}
use Rattle.sheet_lines.specs.Places.{all_placed, place_after_all, Puts, PutsAll}
use Rattle.sheet_parts.proofs.Answers.{front-take}
use Rattle.sheet_parts.proofs.Room.{Short, as-text}

-- the front of a buffer into which a text was written
pub front-text : (out text : List ℕ) → length text ≤ length out → take (length text) (sets out 0 text) ≡ text
front-text out text h = front-take out text h (length text) (omega arith) ∙ take-length text

short-length : (most : ℕ) (lines : List (List ℕ)) → Short most lines → length (join lines) ≤ length lines * most
unfolding join
short-length most [] s = omega arith
short-length most (line ∷ lines) s = omega (arith, s.0, short-length most lines s.1, length-append line (join lines), suc-mul (length lines) most)

pub front-lines : (most : ℕ) (out left : List ℕ) (written : ℕ) (lines : List (List ℕ)) → Short most lines → length lines * most + 64 ≤ length out
    → PutsAll lines out 0 left written → take written left ≡ join lines
front-lines most out left written lines s h p =
    let t = as-text most out 0 lines s (omega (arith, h)) in
    ap₂ (λ (n : ℕ) (l : List ℕ). take n l) (p.1 ∙ t.1 ∙ zero-add (length (join lines))) (p.0 ∙ t.0)
    ∙ front-text out (join lines) (omega (arith, h, short-length most lines s))

pub front-line : (out left : List ℕ) (written : ℕ) (line : List ℕ) → length line ≤ 64 → 128 ≤ length out → Puts line out 0 left written → take written left ≡ line
unfolding all_placed place_after_all join
front-line out left written line s h p = front-lines 64 out left written (line ∷ []) (s, tt) (omega (arith, h)) p ∙ append-nil line
