-- What opening and the first line ensure, put together.
use Rattle.std.proofs.Common.{length}
use Rattle.book.specs.Answers.{opened_packed_seen}
use Rattle.meaning.specs.PackedSetups.{read_setup}
use Rattle.sheet_parts.proofs.FirstLaws.{begins}
use Rattle.sheet_parts.proofs.beginning.begin.Goals as goal

pub returns : goal.returns
returns c =
    let a = c.args in
    let read = read_setup a.bytes.now (length a.held.now) (length a.side1.now) (length a.side2.now) in
    let o = c.open_packed-opened.ensures in
    let p = c.put_first_line-written.ensures in
    let r = begins read (opened_packed_seen c.open_packed-opened.result) a.out.now _ c.put_first_line-written.result o.0 p.0 p.1 in
    (r.0, o.1, o.2, o.3, r.1)
