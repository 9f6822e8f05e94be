-- The numbers of the mark that `mark` gives, whose numbers are narrowed.
use Rattle.viewer.proofs.Promises.{mark-kept}
use Rattle.viewer.proofs.bars.ghendufika_mark.Goals as goal

pub returns : goal.returns
returns c =
    mark-kept _ _ _ _ _ _ c.originator_named-originator.ensures c.at_most_65535-reference.ensures _ _ _
    c.at_most_255-account.ensures c.at_most_65535-day.ensures c.at_most_255-period.ensures
    _ _ c.into.ensures (rw c.seen-view.ensures.seen at c.mark.ensures)
