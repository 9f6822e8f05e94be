-- A line stands where there is room for any; numbers after spaces, one after the other; a line's end.
use Rattle.std.proofs.Common.{◌≡◌, ℕ, ◌+◌, ◌<◌, true, false, List, ◌++◌, length, get_or, drop, sym, add-one, length-append, drop-cons}
use lib.Seq.{sets}
use Rattle.meaning.specs.Decimals.{decimal}
use Rattle.meaning.specs.SheetLines.{field, fields, newline}
use Rattle.laws.proofs.Stores.{sets-append}
use Rattle.decimals.specs.Texts.{Written, has_room as room_for}
use Rattle.sheet_lines.specs.Places.{most_bytes, has_room, placed, place_after}

-- ---- a line where there is room for any

module _ (out : List ℕ) (at : ℕ) (line : List ℕ) where
  pub no_room : room_for (length out) at most_bytes ≡ false → (out ≡ placed out at line) × (at ≡ place_after (length out) at line)
  unfolding placed place_after has_room room_for
  no_room e = (rw e, rw e)

  pub with-room : {left : List ℕ} {next : ℕ} → room_for (length out) at most_bytes ≡ true → Written out at line left next
      → (left ≡ placed out at line) × (next ≡ place_after (length out) at line)
  unfolding placed place_after has_room room_for
  with-room e w = (rw e w.buffer, rw e w.place)

-- ---- numbers, each after a space: the first of those left, and the others

module _ (ns : List ℕ) (k : ℕ) (h : k < length ns) where
  first_field : fields (drop k ns) ≡ field (decimal (get_or ns k 0)) ++ fields (drop (k + 1) ns)
  first_field = rw (add-one, drop-cons ns k 0 h)

  pub fields-length : length (fields (drop k ns)) ≡ length (field (decimal (get_or ns k 0))) + length (fields (drop (k + 1) ns))
  fields-length = rw first_field (length-append (field (decimal (get_or ns k 0))) (fields (drop (k + 1) ns)))

  pub fields-more : {out left : List ℕ} {place next : ℕ} → Written out place (field (decimal (get_or ns k 0))) left next
      → sets left next (fields (drop (k + 1) ns)) ≡ sets out place (fields (drop k ns))
  fields-more {out} {left} {place} {next} w =
      rw (w.buffer, w.place, first_field) (sym (sets-append out place (field (decimal (get_or ns k 0))) (fields (drop (k + 1) ns))))

pub ended-length : (text : List ℕ) → length (text ++ newline) ≡ length text + 1
ended-length text = length-append text newline
