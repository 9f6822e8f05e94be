-- A turn of the code is the definition's turn: the book that the program opened is sound and stays so, and there is room for every answer. So what
-- `turn` promises of `run_on` is said of `run_over`, of which `printed` (sheet_turns/specs/Turns.antt) speaks.
use Rattle.std.proofs.Common.{◌≡◌, ℕ, ◌≤◌, true, List, length, ap, ◌∙◌, arith}
use Rattle.meaning.specs.Ledgers.{contracts}
use Rattle.meaning.specs.Books.{Book}
use Rattle.meaning.specs.Soundness.{sound}
use Rattle.meaning.specs.PackedCalls.{calls_in, run_on}
use Rattle.meaning.proofs.PackedCalls.{run_sound, run-is-calls, calls-keep-sound}
use Rattle.meaning.specs.Sheet.{run_over}
use Rattle.sheet_turns.proofs.InParts.{enough}

pub same-run : (room : ℕ) (b : Book contracts) (bytes : List ℕ) → sound b ≡ true → length bytes ≤ room → run_on room b bytes ≡ run_over b bytes
unfolding run_over
same-run room b bytes s h = (run_sound b room bytes s).1 ∙ enough room (length bytes) b bytes h (omega arith)

pub stays-sound : (b : Book contracts) (bytes : List ℕ) → sound b ≡ true → sound (run_over b bytes).book ≡ true
unfolding run_over
stays-sound b bytes s = ap sound (run-is-calls (length bytes) b bytes) ∙ calls-keep-sound b (calls_in (length bytes) bytes) s
