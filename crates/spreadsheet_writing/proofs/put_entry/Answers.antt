-- The period, the comma, the volume and the line end, one after the other.
use mathlib.Core.List.{List, ◌++◌, append_assoc}
use mathlib.Core.Path.{◌≡◌, sym, ap, ◌∙◌}
use Prim.Native.Nat.{ℕ, ◌+◌, ◌≤◌}
use native.Mathlib.Omega.{arith}
use lib.ListN.{length, length-append}
use Rattle.laws.proofs.Machine.{widens-32, wide-32}
use Rattle.meaning.specs.Ascii.{ascii}
use Rattle.meaning.specs.Decimals.{decimal}
use Rattle.decimals.proofs.Texts.{put_then, written_then, written-put, room_after}
use Rattle.messages.specs.Structs.{entry_of}
use Rattle.spreadsheets.specs.Writing.{mwh_text, entry_text, entry_line}
use Rattle.spreadsheet_writing.proofs.put_entry.Goals as goal
use Rattle.spreadsheet_writing.proofs.put_entry.Goals.{Start}

-- the line in the order of the calls
module _ (s : Start) where
  abbrev begun : List ℕ
  begun = decimal s.args.e.period ++ ascii ","

  abbrev volume : List ℕ
  volume = mwh_text s.args.e.volume

  line-is : entry_line (entry_of s.args.e) ≡ (begun ++ volume) ++ ascii "\n"
  unfolding entry_text
  line-is = ap (λ (text : List ℕ). text ++ ascii "\n") (sym (append_assoc (decimal s.args.e.period) (ascii ",") volume))

  free : s.args.at + length ((begun ++ volume) ++ ascii "\n") ≤ length s.args.out.now
  free = rw line-is at s.requires

  parts : length ((begun ++ volume) ++ ascii "\n") ≡ length begun + length volume + 1
  parts = length-append (begun ++ volume) (ascii "\n") ∙ ap (λ (n : ℕ). n + 1) (length-append begun volume)

pub overflow_cast-e-2 : goal.overflow_cast-e-2
overflow_cast-e-2 c =
    widens-32 c.args.e.volume (record { sfits = search })

pub put_mwh-after_mwh-requires : goal.put_mwh-after_mwh-requires
put_mwh-after_mwh-requires c =
    let start : Start = (goal.at.put_mwh-after_mwh-requires c).Start in
    rw (wide-32 c.args.e.volume (record { sfits = search }))
    (room_after (length (volume start)) (put_then (omega (arith, free start, parts start)) c.put_decimal-after_period.ensures c.put_word-after_comma.ensures)
    (omega (arith, free start, parts start)))

pub returns : goal.returns
returns c =
    let start : Start = (goal.at.returns c).Start in
    let before = put_then (omega (arith, free start, parts start)) c.put_decimal-after_period.ensures c.put_word-after_comma.ensures in
    let behind = rw (wide-32 c.args.e.volume (record { sfits = search })) at c.put_mwh-after_mwh.ensures in
    rw (line-is start) (written-put (free start) (written_then before behind) c.put_word.ensures)
