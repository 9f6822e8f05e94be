-- The first line of a book that was opened, or was not, is that of the setup as it was read.
use Rattle.std.proofs.Common.{◌≡◌, ℕ, List, length, refl, ap, ◌∙◌, eq-eqb, ne_eqb}
use Rattle.laws.proofs.Cases.{by-eq}
use Rattle.meaning.specs.Books.{Setup}
use Rattle.meaning.specs.PackedMessages.{Reading}
use Rattle.setups.specs.Structs.{setup_for}
use Rattle.book.specs.Answers.{opened, opened_packed}
use Rattle.book.specs.declared.OpenedPacked.{OpenedPacked}
use Rattle.sheet_lines.specs.Places.{placed, place_after}
use Rattle.sheet_turns.specs.Turns.{line_for, first_line}
use Rattle.sheet_parts.specs.Parts.{begun_of}

first-line : (read : Reading Setup) → let o = opened_packed read in line_for o.answer o.book.setup.first o.book.setup.days o.book.setup.accounts ≡ first_line read
unfolding opened_packed opened first_line line_for setup_for
first-line read = by-eq read.answer 0 (λ e. rw (eq-eqb read.answer 0 e)) (λ n. rw (ne_eqb read.answer 0 n))

-- the beginning, from what its calls ensure
pub begins : (read : Reading Setup) (o : OpenedPacked) (out text : List ℕ) (written : ℕ) → o ≡ opened_packed read
    → let line = line_for o.answer o.book.setup.first o.book.setup.days o.book.setup.accounts in
    text ≡ placed out 0 line → written ≡ place_after (length out) 0 line
    → (record { answer = o.answer; used = o.length; written = written; book = o.book } ≡ begun_of (length out) read) × (text ≡ placed out 0 (first_line read))
unfolding begun_of
begins read o out text written e t w =
    let line : line_for o.answer o.book.setup.first o.book.setup.days o.book.setup.accounts ≡ first_line read =
    ap (λ (x : OpenedPacked). line_for x.answer x.book.setup.first x.book.setup.days x.book.setup.accounts) e ∙ first-line read in
    (rw (w, line, e) refl, t ∙ ap (placed out 0) line)
