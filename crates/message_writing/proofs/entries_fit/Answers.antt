-- The entries in the front of the array, each tested.
use mathlib.Core.Path.{◌≡◌, ◌∙◌}
use lib.ListN.{take}
use native.Mathlib.Omega.{arith}
use borrow.Author.Tests.{le-leb, lt-leb}
use Rattle.std.proofs.Common.{rules, tests}
use Rattle.std.specs.List.{list_all}
use Rattle.std.proofs.lemmas.Iterator.{YieldsList-from_slice}
use Rattle.std.proofs.lemmas.Iterator.Search.{all_from_yields_List}
use Rattle.laws.proofs.AllBelow.{all-below}
use Rattle.messages.specs.Structs.{no_entry}
use Rattle.message_writing.specs.Writing.{entry_fits, entries_fit}
use Rattle.message_writing.proofs.entries_fit.Goals as goal

pub returns-then-n-le-MOST_ENTRIES : goal.returns-then-n-le-MOST_ENTRIES
unfolding entries_fit
returns-then-n-le-MOST_ENTRIES c =
    let n = c.args.n in
    let each : c.all.result ≡ list_all entry_fits (take n.count n.entries) =
    all_from_yields_List entry_fits _ _ c.all.result c.all.ensures.ran (YieldsList-from_slice (take n.count n.entries) cc) (λ x b q k. search (rules, tests)) in
    rw (le-leb n.count 50 c.if-n-le-MOST_ENTRIES.true) (each ∙ all-below entry_fits no_entry n.count n.entries (omega arith))

pub returns-else-n-le-MOST_ENTRIES : goal.returns-else-n-le-MOST_ENTRIES
unfolding entries_fit
returns-else-n-le-MOST_ENTRIES c = rw (lt-leb c.args.n.count 50 c.if-n-le-MOST_ENTRIES.false)
