-- Each side's place by `states`; inside the table the machine's default is not asked for.
use borrow.Author.Rules.{sfits_of}
use mathlib.Core.Bool.{Bool, ◌&&◌, ◌||◌}
use mathlib.Core.Path.{◌≡◌, ap, ap₂, ◌∙◌}
use Prim.Native.Nat.{suc}
use lib.IntN.{pos}
use lib.ListN.{get_or}
use mir.Facts.{to_z-of_z}
use Rattle.laws.proofs.Lists.{get_or-inside}
use Rattle.meaning.specs.Ledgers.{contracts, the_mark, stands, index}
use Rattle.notification_kinds.specs.Kinds.{states_place}
use Rattle.notification_kinds.proofs.states_at.Goals as goal

pub returns : goal.returns
unfolding states_place
returns c =
    let a = c.args in
    let i = index a.days a.s a.d (suc a.p) in
    let e1 : c.states-stated1.result ≡ stands contracts (get_or a.side1.now i the_mark) =
    c.states-stated1.ensures ∙ rw (to_z-of_z (sfits_of c.states-arg-1.given), c.place_of-i.ensures) (ap (stands contracts) (get_or-inside a.side1.now i (pos 0) the_mark c.requires.in1)) in
    let e2 : c.states-stated2.result ≡ stands contracts (get_or a.side2.now i the_mark) =
    c.states-stated2.ensures ∙ rw (to_z-of_z (sfits_of c.states-arg-2-1.given), c.place_of-i.ensures) (ap (stands contracts) (get_or-inside a.side2.now i (pos 0) the_mark c.requires.in2)) in
    ap₂ (λ (x y : Bool). (a.w1 && x) || (a.w2 && y)) e1 e2
