-- The line of a message, with a place and without; and lines of messages one after the other: the first of those left, and the others.
use Rattle.std.proofs.Common.{◌≡◌, ℕ, ◌+◌, ◌%◌, ◌^◌, ◌<◌, true, false, List, [], ◌∷◌, length, get_or, drop, add-one, drop-cons}
use Rattle.words.specs.Rules.{Outcome, placeless}
use Rattle.meaning.specs.Ascii.{ascii}
use Rattle.meaning.specs.SheetLines.{line, carries_place, message_line, message_lines}
use Rattle.sheet_lines.specs.Places.{placed, place_after, all_placed, place_after_all}

module _ (number : ℕ) (told : Outcome) where
  pub line-with-place : carries_place told.answer ≡ true → message_line number told ≡ line (ascii "m") (number ∷ told.answer ∷ told.place ∷ [])
  unfolding message_line
  line-with-place e = rw e

  pub line-without : carries_place told.answer ≡ false → message_line number told ≡ line (ascii "m") (number ∷ told.answer ∷ [])
  unfolding message_line
  line-without e = rw e

module _ (outcomes : List Outcome) (k number : ℕ) (h : k < length outcomes) where
  first-message : message_lines number (drop k outcomes)
      ≡ message_line number (get_or outcomes k (placeless 0)) ∷ message_lines ((number + 1) % 2 ^ 64) (drop (k + 1) outcomes)
  unfolding message_lines
  first-message = rw (add-one k, drop-cons outcomes k (placeless 0) h)

  pub message-placed : (out left : List ℕ) (place next then : ℕ)
      → left ≡ placed out place (message_line number (get_or outcomes k (placeless 0))) → next ≡ place_after (length out) place (message_line number (get_or outcomes k (placeless 0)))
      → then ≡ (number + 1) % 2 ^ 64
      → all_placed left next (message_lines then (drop (k + 1) outcomes)) ≡ all_placed out place (message_lines number (drop k outcomes))
  unfolding all_placed
  message-placed out left place next then l n t = rw (first-message, l, n, t)

  pub message-after : (size place next then : ℕ)
      → next ≡ place_after size place (message_line number (get_or outcomes k (placeless 0))) → then ≡ (number + 1) % 2 ^ 64
      → place_after_all size next (message_lines then (drop (k + 1) outcomes)) ≡ place_after_all size place (message_lines number (drop k outcomes))
  unfolding place_after_all
  message-after size place next then n t = rw (first-message, n, t)
