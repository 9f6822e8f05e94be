-- The definition, test by test.
use Rattle.std.proofs.Common.{◌∙◌, le-leb}
use Rattle.std.proofs.lemmas.Bool.{lt-leb}
use Rattle.laws.proofs.SignedRanges.{contained-within}
use Rattle.spreadsheets.specs.Writing.{writable}
use Rattle.spreadsheet_writing.proofs.is_writable.Goals as goal

pub returns-then-e-le-MOST_SPREADSHEET_PERIOD : goal.returns-then-e-le-MOST_SPREADSHEET_PERIOD
unfolding writable
returns-then-e-le-MOST_SPREADSHEET_PERIOD c =
    let e = c.args.e in
    let r = c.new.ensures in
    rw (le-leb e.period 99 c.if-e-le-MOST_SPREADSHEET_PERIOD.true)
    (c.contains.ensures.value ∙ contained-within c.new.result 99999999 e.volume r.start r.end r.exhausted)

pub returns-else-e-le-MOST_SPREADSHEET_PERIOD : goal.returns-else-e-le-MOST_SPREADSHEET_PERIOD
unfolding writable
returns-else-e-le-MOST_SPREADSHEET_PERIOD c =
    let e = c.args.e in
    rw (lt-leb e.period 99 c.if-e-le-MOST_SPREADSHEET_PERIOD.false)
