-- The lines left, written behind the header from where the loop stands, make the whole.
use Rattle.std.proofs.Common.{◌≡◌, ◌+◌, ◌<◌, ◌≤◌, List, ℕ, length, get_or, take, arith, sym, ap, ◌∙◌, length-append}
use lib.Seq.{length-take-le, get_or-take}
use Rattle.meaning.specs.Ascii.{ascii}
use Rattle.decimals.specs.Texts.{Written}
use Rattle.decimals.proofs.Texts.{put_written, written_then, room_after}
use Rattle.messages.specs.Structs.{no_entry, no_entry_meant, entry_of}
use Rattle.spreadsheets.specs.Structs.{entries_in}
use Rattle.spreadsheets.specs.Writing.{written}
use Rattle.spreadsheets.specs.declared.Spreadsheet.{Spreadsheet}
use Rattle.spreadsheets.proofs.EntriesIn.{entries-count, entry_at}
use Rattle.spreadsheet_writing.proofs.LinesLeft.{left-start, left-room, left-more, left_end}
use Rattle.spreadsheet_writing.proofs.put_file.Invariants.{lines}
use Rattle.spreadsheet_writing.proofs.put_file.Goals as goal
use Rattle.spreadsheet_writing.proofs.put_file.Goals.{Start, After-put_word-at, In-loop-e}

abbrev header : List ℕ
header = ascii "period,mwh\n"

free : (s : Start) → 0 + (length header + length (lines s.args.x)) ≤ length s.args.out.now
unfolding written
free s = omega (arith, s.requires.1, length-append header (lines s.args.x))

begun : (c : After-put_word-at) → let w = c.put_word-at in Written c.args.out.now 0 header w.new.out w.result
begun c = put_written (omega (arith, free (goal.at.After-put_word-at c).Start)) c.put_word-at.ensures

pub loop-e-init : goal.loop-e-init
loop-e-init c =
    let at = goal.at.loop-e-init c in
    record {
      room = room_after (length (lines c.args.x)) (begun at.After-put_word-at) (free at.Start);
      left = left-start (entries_in c.args.x) _ _;
    }

-- the entry at hand is the next of those that are counted
module _ (c : In-loop-e) where
  abbrev x : Spreadsheet
  x = c.args.x

  counted : length (take x.count x.entries) ≡ x.count
  counted = length-take-le x.count x.entries (omega arith)

  more : c.loop-e.e-index < length (entries_in x)
  more = omega (arith, c.loop-e-test.true, counted, entries-count x)

  here : entry_of (get_or (take x.count x.entries) c.loop-e.e-index no_entry) ≡ get_or (entries_in x) c.loop-e.e-index no_entry_meant
  here =
      let inside : c.loop-e.e-index < x.count = omega (arith, c.loop-e-test.true, counted) in
      ap entry_of (get_or-take x.count x.entries c.loop-e.e-index no_entry inside) ∙ sym (entry_at x c.loop-e.e-index inside)

pub put_entry-at-requires : goal.put_entry-at-requires
put_entry-at-requires c =
    let turn = (goal.at.put_entry-at-requires c).In-loop-e in
    let l = c.loop-e in
    rw (here turn) (left-room (entries_in c.args.x) _ _ l.e-index l.at l.out l.invariant.left (more turn) l.invariant.room)

pub loop-e-preserved : goal.loop-e-preserved
loop-e-preserved c =
    let turn = (goal.at.loop-e-preserved c).In-loop-e in
    let l = c.loop-e in
    record {
      room = l.invariant.room;
      left = left-more (entries_in c.args.x) _ _ l.e-index l.at l.out l.invariant.left (more turn) (rw (here turn) at c.put_entry-at.ensures);
    }

pub returns : goal.returns
unfolding written
returns c =
    let x = c.args.x in
    let l = c.loop-e in
    let counted : length (take x.count x.entries) ≡ x.count = length-take-le x.count x.entries (omega arith) in
    written_then (begun (goal.at.returns c).After-put_word-at)
    (left_end (entries_in x) _ _ l.e-index l.at l.out l.invariant.left (omega (arith, entries-count x)))
