-- By the two searches, both with the row that is read before them.
use mathlib.Core.Path.{sym, ◌∙◌}
use Rattle.messages.specs.Structs.{notification_of}
use Rattle.book.specs.Structs.{book_seen}
use Rattle.notification_kinds.proofs.KindLaws.{kind-replacement, kind-additional, kind-initial}
use Rattle.notification_kinds.proofs.kind_in.Goals as goal

pub invariant_of-question : goal.invariant_of-question
invariant_of-question c = record { fits = c.requires; is_row = c.row_of-row.ensures }

pub returns-then-is_replacement : goal.returns-then-is_replacement
returns-then-is_replacement c =
    let a = c.args in
    let v = a.view in
    let m = book_seen v in
    sym (kind-replacement m (notification_of a.notification) (sym c.is_replacement.ensures ∙ c.if-is_replacement.true))

pub returns-then-is_overlapped : goal.returns-then-is_overlapped
returns-then-is_overlapped c =
    let a = c.args in
    let v = a.view in
    let m = book_seen v in
    sym (kind-additional m (notification_of a.notification) (sym c.is_replacement.ensures ∙ c.if-is_replacement.false) (sym c.is_overlapped.ensures ∙ c.if-is_overlapped.true))

pub returns : goal.returns
returns c =
    let a = c.args in
    let v = a.view in
    let m = book_seen v in
    sym (kind-initial m (notification_of a.notification) (sym c.is_replacement.ensures ∙ c.if-is_replacement.false) (sym c.is_overlapped.ensures ∙ c.if-is_overlapped.false))
