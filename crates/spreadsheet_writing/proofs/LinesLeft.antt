-- The loop that writes lines: those that are left, written from where it stands, make the whole.
use mathlib.Core.List.{List, [], ◌++◌, map}
use mathlib.Core.Path.{◌≡◌, refl, sym, ap, ◌∙◌}
use Prim.Native.Nat.{ℕ, ◌+◌, ◌≤◌, ◌<◌}
use native.Mathlib.Numerals.{add-one}
use native.Mathlib.Omega.{arith}
use lib.ListN.{length, get_or, drop, drop_of_length-le, length-append}
use lib.Seq.{sets, length-sets, drop-cons}
use Rattle.words.specs.Lists.{join}
use Rattle.laws.proofs.Stores.{sets-append}
use Rattle.meaning.specs.Ledgers.{contracts}
use Rattle.meaning.specs.Messages.{Entry}
use Rattle.decimals.specs.Texts.{Written}
use Rattle.messages.specs.Structs.{no_entry_meant}
use Rattle.spreadsheets.specs.Writing.{entry_line}

-- the lines from the k-th entry on
abbrev pub lines_from : ℕ → List (Entry contracts) → List ℕ
lines_from k es = join (map entry_line (drop k es))

-- all of them were to be written from `at` on; those before the k-th are, and the next one goes to `place`
pub record Left (es : List (Entry contracts)) (out : List ℕ) (at k place : ℕ) (left : List ℕ) : Type 0 where
  pub places : place + length (lines_from k es) ≡ at + length (lines_from 0 es)
  pub buffer : sets left place (lines_from k es) ≡ sets out at (lines_from 0 es)
  pub kept : length left ≡ length out

module _ (es : List (Entry contracts)) (out : List ℕ) (at : ℕ) where
  pub left-start : Left es out at 0 at out
  left-start = record { places = refl; buffer = refl; kept = refl }

  module _ (k place : ℕ) (left : List ℕ) (l : Left es out at k place left) where
    module _ (h : k < length es) where
      abbrev here : List ℕ
      here = entry_line (get_or es k no_entry_meant)

      next-line : lines_from k es ≡ here ++ lines_from (k + 1) es
      unfolding join
      next-line = rw (add-one, drop-cons es k no_entry_meant h)

      next-length : length (lines_from k es) ≡ length here + length (lines_from (k + 1) es)
      next-length = ap length next-line ∙ length-append here (lines_from (k + 1) es)

      pub left-room : at + length (lines_from 0 es) ≤ length out → place + length here ≤ length left
      left-room room = omega (arith, l.places, l.kept, next-length)

      pub left-more : {then : List ℕ} {next : ℕ} → Written left place here then next → Left es out at (k + 1) next then
      left-more w =
          record {
            places = omega (arith, w.place, l.places, next-length);
            buffer = rw (w.buffer, w.place) (sym (sets-append left place here (lines_from (k + 1) es))) ∙ ap (sets left place) (sym next-line) ∙ l.buffer;
            kept = ap length w.buffer ∙ length-sets left place here ∙ l.kept;
          }

    pub left_end : length es ≤ k → Written out at (lines_from 0 es) left place
    unfolding join
    left_end h =
        let e : drop k es ≡ [] = drop_of_length-le es {i = k} h in
        record { buffer = rw e at l.buffer; place = omega (arith, rw e at l.places) }
