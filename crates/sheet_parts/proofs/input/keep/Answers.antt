-- The part that is copied to the front is what is left.
use Rattle.std.proofs.Common.{sym, ◌∙◌}
use Rattle.sheet_parts.proofs.KeptLaws.{kept-count, brought}
use Rattle.sheet_parts.proofs.input.keep.Goals as goal

pub returns : goal.returns
returns c =
    let a = c.args in
    let end = c.min-end in
    let from = c.min-from in (
      c.copy_within.ensures.after ∙ brought a.used a.have a.input.now end.result from.result end.ensures from.ensures,
      sym (kept-count a.used a.have a.input.now end.result from.result end.ensures from.ensures),
    )
