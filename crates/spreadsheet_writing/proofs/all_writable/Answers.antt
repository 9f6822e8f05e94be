-- At most 50 entries, and each of them by its place.
use Rattle.std.proofs.Common.{◌≤◌, length, rules, tests, arith, ◌∙◌, le-leb}
use Rattle.std.proofs.lemmas.Bool.{lt-leb}
use Rattle.std.proofs.lemmas.Iterator.{YieldsList-from_slice}
use Rattle.std.proofs.lemmas.Iterator.Search.{all_from_yields_List}
use Rattle.laws.proofs.AllBelow.{all-below}
use Rattle.messages.specs.Structs.{no_entry, entry_of}
use Rattle.messages.specs.declared.Entry.{Entry}
use Rattle.spreadsheets.specs.Writing.{writable}
use Rattle.spreadsheets.proofs.EntriesIn.{entries-count, every-entry}
use Rattle.spreadsheet_writing.proofs.all_writable.Goals as goal

pub returns-then-x-le-MOST_ENTRIES : goal.returns-then-x-le-MOST_ENTRIES
returns-then-x-le-MOST_ENTRIES c =
    let x = c.args.x in
    let fits = λ (e : Entry). writable (entry_of e) in
    let inside : x.count ≤ length x.entries = omega arith in
    let tested = all_from_yields_List fits _ _ c.all.result c.all.ensures.ran (YieldsList-from_slice _ (cc)) (λ e b q k. search (rules, tests)) in
    rw (entries-count x, every-entry x, le-leb x.count 50 c.if-x-le-MOST_ENTRIES.true) (tested ∙ all-below fits no_entry x.count x.entries inside)

pub returns-else-x-le-MOST_ENTRIES : goal.returns-else-x-le-MOST_ENTRIES
returns-else-x-le-MOST_ENTRIES c =
    let x = c.args.x in
    rw (entries-count x, lt-leb x.count 50 c.if-x-le-MOST_ENTRIES.false)
