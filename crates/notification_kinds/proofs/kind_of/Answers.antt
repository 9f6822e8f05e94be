-- Tables that do not fit have no kind; on others the search decides.
use mathlib.Core.Path.{sym, ◌∙◌}
use Rattle.messages.specs.Structs.{notification_of}
use Rattle.notification_kinds.specs.Kinds.{Fits}
use Rattle.notification_kinds.proofs.KindLaws.{test_fits, kind-fitting, kind-unfit}
use Rattle.notification_kinds.proofs.kind_of.Goals as goal
use Rattle.notification_kinds.proofs.kind_of.Goals.{Else-not-tables_fit}

pub returns-then-not-tables_fit : goal.returns-then-not-tables_fit
returns-then-not-tables_fit c =
    let a = c.args in
    let v = a.view in
    sym (kind-unfit v.book v.held.now v.side1.now v.side2.now (notification_of a.n) (sym c.tables_fit.ensures ∙ c.if-not-tables_fit.true))

fitting : (c : Else-not-tables_fit) → let v = c.args.view in Fits v.book v.held.now v.side1.now v.side2.now
fitting c =
    let a = c.args in
    let v = a.view in
    test_fits v.book v.held.now v.side1.now v.side2.now (sym c.tables_fit.ensures ∙ c.if-not-tables_fit.false)

pub kind_in-requires : goal.kind_in-requires
kind_in-requires c = fitting (goal.at.kind_in-requires c).Else-not-tables_fit

pub returns : goal.returns
returns c =
    let a = c.args in
    let v = a.view in
    c.kind_in.ensures ∙ sym (kind-fitting v.book v.held.now v.side1.now v.side2.now (notification_of a.n) (fitting (goal.at.returns c).Else-not-tables_fit))
