-- A text in a lent buffer: whether there is room for it, and what the buffer holds and where the next text goes afterwards.
use Rattle.std.specs.Prelude.{Bool, List, ◌≡◌, ℕ, ◌+◌, length, if◌then◌else◌}
use Rattle.std.proofs.lemmas.List.Edits.{sets}
use Rattle.words.specs.Tests.{◌≤?◌}

unfoldable pub has_room : ℕ → ℕ → ℕ → Bool
has_room size at bytes = at + bytes ≤? size

-- A text was written from `at` on: the buffer that it left, and the place after it.
pub record Written (out : List ℕ) (at : ℕ) (text left : List ℕ) (next : ℕ) : Type 0 where
  pub buffer : left ≡ sets out at text
  pub place : next ≡ at + length text

-- A text was put from `at` on: written where there is room for the whole of it; else the buffer and the place are as they were.
pub record Put (out : List ℕ) (at : ℕ) (text left : List ℕ) (next : ℕ) : Type 0 where
  pub buffer : left ≡ (if has_room (length out) at (length text) then sets out at text else out)
  pub place : next ≡ (if has_room (length out) at (length text) then at + length text else at)
