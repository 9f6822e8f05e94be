-- The rules one by one. Where 17 and 18 have passed the values fit, so 23 does not come.
use mathlib.Core.Bool.{true, false, ◌||◌}
use mathlib.Core.Path.{◌≡◌, sym, ap, ◌∙◌}
use borrow.Author.Tests.{lt-ltb, le-ltb}
use Rattle.words.specs.Rules.{answer}
use Rattle.words.specs.Fields.{fit, bytes_for}
use Rattle.laws.proofs.Cases.{or_left, or_right}
use Rattle.meaning.specs.Books as Books
use Rattle.meaning.specs.Books.{counts_wrong, last_day_wrong, code_wrong, some_row_wrong}
use Rattle.meaning.specs.PackedSetups.{setup_layout, setup_values, setup_writing_rules}
use Rattle.setups.specs.Structs.{setup_of}
use Rattle.setup_writing.proofs.ValuesFit.{layout-own, setup-fits}
use Rattle.setup_writing.proofs.writing_refusal.Goals as goal
use Rattle.setup_writing.proofs.writing_refusal.Goals.{After-bytes_for, After-code_wrong}

-- what the first test tests
seventeen : (c : After-code_wrong)
    → counts_wrong (setup_of c.args.s) || last_day_wrong (setup_of c.args.s)
    || code_wrong (setup_of c.args.s)
    ≡ c.counts_wrong.result || c.last_day_wrong.result || c.code_wrong.result
seventeen c = rw (c.counts_wrong.ensures, c.last_day_wrong.ensures, c.code_wrong.ensures)

pub returns-then-counts_wrong-last_day_wrong : goal.returns-then-counts_wrong-last_day_wrong
unfolding answer setup_writing_rules
returns-then-counts_wrong-last_day_wrong c = rw (seventeen (goal.at.returns-then-counts_wrong-last_day_wrong c).After-code_wrong, c.if-counts_wrong-last_day_wrong.true)

pub returns-then-some_row_wrong : goal.returns-then-some_row_wrong
unfolding answer setup_writing_rules
returns-then-some_row_wrong c =
    let r : some_row_wrong (setup_of c.args.s) ≡ true = sym c.some_row_wrong.ensures ∙ c.if-some_row_wrong.true in
    rw (seventeen (goal.at.returns-then-some_row_wrong c).After-code_wrong, c.if-counts_wrong-last_day_wrong.false, r)

-- where 17 and 18 have passed
module _ (c : After-bytes_for) where
  abbrev setup : Books.Setup
  setup = setup_of c.args.s

  passed : counts_wrong setup || last_day_wrong setup || code_wrong setup ≡ false
  passed = seventeen (goal.at.After-bytes_for c).After-code_wrong ∙ c.if-counts_wrong-last_day_wrong.false

  rows_right : some_row_wrong setup ≡ false
  rows_right = sym c.some_row_wrong.ensures ∙ c.if-some_row_wrong.false

  fits : fit (setup_layout setup) (setup_values setup) ≡ true
  fits =
      let two = counts_wrong setup || last_day_wrong setup in
      let counts = or_left (counts_wrong setup) (last_day_wrong setup) (or_left two (code_wrong setup) passed) in
      setup-fits c.args.s c.well_formed.0 counts (or_right two (code_wrong setup) passed) rows_right

  bytes : c.bytes_for.result ≡ bytes_for (setup_layout setup)
  bytes = c.bytes_for.ensures ∙ ap bytes_for (sym (layout-own c.args.s))

pub returns-then-room-bytes_for : goal.returns-then-room-bytes_for
unfolding answer setup_writing_rules
returns-then-room-bytes_for c =
    let here = (goal.at.returns-then-room-bytes_for c).After-bytes_for in
    rw (passed here, rows_right here, fits here, lt-ltb c.args.room (bytes_for (setup_layout (setup here))) (rw (bytes here) at c.if-room-bytes_for.true))

pub returns : goal.returns
unfolding answer setup_writing_rules
returns c =
    let here = (goal.at.returns c).After-bytes_for in
    rw (passed here, rows_right here, fits here, le-ltb c.args.room (bytes_for (setup_layout (setup here))) (rw (bytes here) at c.if-room-bytes_for.false))
