-- THE BUFFER IS ALWAYS LARGE ENOUGH: lines that are short and few stand in it as one text, from its front on.
use Rattle.std.proofs.Common.{◌≡◌, ℕ, suc, ◌+◌, ◌*◌, ◌%◌, ◌^◌, ◌<◌, ◌≤◌, true, List, [], ◌∷◌, length, sym, refl, ap, ◌∙◌, add-zero, suc-mul, arith, length-append, le-leb}
use lib.Seq.{sets, length-sets}
use Rattle.words.specs.Lists.{join}
use Rattle.words.specs.Rules.{Outcome}
use Rattle.sheet_lines.specs.Outcomes.{outcomes_of}
use Rattle.sheet_lines.specs.Places.{has_room, placed, place_after, all_placed, place_after_all}
use Rattle.sheet_lines.proofs.Lengths.{message-most}
use Rattle.meaning.specs.SheetLines.{message_lines}
use Rattle.laws.proofs.Stores.{sets-append}
use Rattle.sheet_parts.specs.Program.{Bytes}

-- each line has at most so many bytes
abbrev pub Short : ℕ → List (List ℕ) → Type 0
Short most [] = Unit {0}
Short most (line ∷ lines) = (length line ≤ most) × Short most lines

module _ (most : ℕ) where
  room_for : (size at : ℕ) → at + 64 ≤ size → has_room size at ≡ true
  unfolding has_room
  room_for size at h = le-leb (at + 64) size h

  with-placed : (out : List ℕ) (at : ℕ) (line : List ℕ) → at + 64 ≤ length out
      → (placed out at line ≡ sets out at line) × (place_after (length out) at line ≡ at + length line)
  unfolding placed place_after
  with-placed out at line h = (rw (room_for (length out) at h), rw (room_for (length out) at h))

  pub as-text : (out : List ℕ) (at : ℕ) (lines : List (List ℕ)) → Short most lines → at + length lines * most + 64 ≤ length out
      → (all_placed out at lines ≡ sets out at (join lines)) × (place_after_all (length out) at lines ≡ at + length (join lines))
  unfolding all_placed place_after_all join
  as-text out at [] s h = (refl, sym (add-zero at))
  as-text out at (line ∷ lines) s h =
      let fits : at + 64 ≤ length out = omega (arith, h) in
      let p = with-placed out at line fits in
      let size : length (sets out at line) ≡ length out = length-sets out at line in
      let rest = as-text (sets out at line) (at + length line) lines s.1 (rw size (omega (arith, h, s.0, suc-mul (length lines) most))) in (
        rw (p.0, p.1) (rest.0 ∙ sym (sets-append out at line (join lines))),
        rw p.1 (ap (λ (n : ℕ). place_after_all n (at + length line) lines) (sym size) ∙ rest.1 ∙ omega (arith, length-append line (join lines))),
      )

-- ---- the lines of a turn, whose answers and places are bytes

pub short-messages : (answers places : List ℕ) (number : ℕ) → number < 2 ^ 64 → Bytes answers → Bytes places → Short 31 (message_lines number (outcomes_of answers places))
unfolding message_lines outcomes_of
short-messages [] places number n a p = tt
short-messages (answer ∷ answers) [] number n a p = tt
short-messages (answer ∷ answers) (place ∷ places) number n a p =
    (message-most number (record { answer = answer; place = place }) n (a 0) (p 0), short-messages answers places ((number + 1) % 2 ^ 64) (omega arith) (λ k. a (suc k)) (λ k. p (suc k)))

pub many-messages : (outcomes : List Outcome) (number : ℕ) → length (message_lines number outcomes) ≡ length outcomes
unfolding message_lines
many-messages [] number = refl
many-messages (told ∷ later) number = ap suc (many-messages later ((number + 1) % 2 ^ 64))
