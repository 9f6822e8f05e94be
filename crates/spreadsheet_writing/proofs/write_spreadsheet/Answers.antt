-- The file is made in a local array, where there is room for any; the lent buffer is written once, at the end.
use mathlib.Core.Bool.{true}
use mathlib.Core.List.{List}
use mathlib.Core.Path.{◌≡◌, refl, sym, ap, ◌∙◌}
use Prim.Native.Nat.{ℕ, ◌≤◌}
use native.Mathlib.Nat.{zero-add}
use native.Mathlib.Omega.{arith}
use lib.ListN.{length, take}
use lib.Seq.{length-take-le}
use Rattle.laws.proofs.PartStores.{front-sets}
use Rattle.decimals.proofs.Texts.{written-front}
use Rattle.spreadsheets.specs.Structs.{entries_in}
use Rattle.spreadsheets.specs.Writing.{written}
use Rattle.spreadsheets.proofs.EntriesIn.{entries-count}
use Rattle.spreadsheets.proofs.WritingRules.{all_writable, few, refused-23, refused-24, writing-done, reads-back}
use Rattle.spreadsheet_writing.specs.Structs.{spreadsheet_written}
use Rattle.spreadsheet_writing.proofs.write_spreadsheet.Goals as goal
use Rattle.spreadsheet_writing.proofs.write_spreadsheet.Goals.{After-put_file-length, Else-not-all_writable}

-- past the test each entry is writable
good : (c : Else-not-all_writable) → all_writable (entries_in c.args.x) ≡ true
good c = sym c.all_writable.ensures ∙ c.if-not-all_writable.false

-- the file in the array: there is room for it, it is so long, and these are its bytes
module _ (c : After-put_file-length) where
  abbrev file : List ℕ
  file = written (entries_in c.args.x)

  fits : length file ≤ 711
  fits = (reads-back (entries_in c.args.x) (good (goal.at.After-put_file-length c).Else-not-all_writable)).most

  length-is : c.put_file-length.result ≡ length file
  length-is = c.put_file-length.ensures.place ∙ zero-add (length file)

  bytes-are : take c.put_file-length.result c.put_file-length.new.out ≡ file
  bytes-are = written-front c.put_file-length.ensures fits

pub returns-then-not-all_writable : goal.returns-then-not-all_writable
unfolding spreadsheet_written
returns-then-not-all_writable c =
    let tested = c.all_writable in
    rw (refused-23 (entries_in c.args.x) c.args.out.now (sym tested.ensures ∙ c.if-not-all_writable.true)) (refl, refl)

pub put_file-length-requires : goal.put_file-length-requires
put_file-length-requires c =
    let tested : Else-not-all_writable = (goal.at.put_file-length-requires c).Else-not-all_writable in
    let x = c.args.x in
    (omega (arith, few (entries_in x) (good tested), entries-count x), (reads-back (entries_in x) (good tested)).most)

pub returns-then-out-length : goal.returns-then-out-length
unfolding spreadsheet_written
returns-then-out-length c =
    let tested : Else-not-all_writable = (goal.at.returns-then-out-length c).Else-not-all_writable in
    let made : After-put_file-length = (goal.at.returns-then-out-length c).After-put_file-length in
    rw (refused-24 (entries_in c.args.x) c.args.out.now (good tested) (omega (arith, c.if-out-length.true, length-is made))) (refl, refl)

pub slice_bounds-text-end : goal.slice_bounds-text-end
slice_bounds-text-end c =
    let made : After-put_file-length = (goal.at.slice_bounds-text-end c).After-put_file-length in
    omega (arith, length-is made, fits made, c.put_file-length.auto.out)

pub slice_bounds-copy_from_slice-end-3 : goal.slice_bounds-copy_from_slice-end-3
slice_bounds-copy_from_slice-end-3 c =
    let made : After-put_file-length = (goal.at.slice_bounds-copy_from_slice-end-3 c).After-put_file-length in
    length-is made ∙ sym (ap length (bytes-are made))

pub copy_from_slice-requires : goal.copy_from_slice-requires
copy_from_slice-requires c =
    let made : After-put_file-length = (goal.at.copy_from_slice-requires c).After-put_file-length in
    length-take-le c.put_file-length.result c.args.out.now c.if-out-length.false ∙ length-is made ∙ sym (ap length (bytes-are made))

pub returns : goal.returns
unfolding spreadsheet_written
returns c =
    let tested : Else-not-all_writable = (goal.at.returns c).Else-not-all_writable in
    let made : After-put_file-length = (goal.at.returns c).After-put_file-length in
    let out = c.args.out.now in
    let room : length (file made) ≤ length out = omega (arith, c.if-out-length.false, length-is made) in
    rw (writing-done (entries_in c.args.x) out (good tested) room, length-is made, c.copy_from_slice.ensures.after, bytes-are made)
    (refl, front-sets out (length (file made)) (file made) refl room)
