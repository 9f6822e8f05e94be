-- No volume that was passed is out of range; the first that is ends the search.
use borrow.Author.Rules.{sfits_of}
use mathlib.Core.Bool.{false}
use mathlib.Core.Path.{◌≡◌, sym, ◌∙◌}
use native.Mathlib.Omega.{arith}
use mir.Facts.{to_z-of_z}
use mir.Syntax.{w32}
use Rattle.laws.proofs.Below.{some-none, some_more}
use Rattle.message_checks.proofs.CheckLaws.{entries-length, wrong_volume, volume-found, volumes-ended}
use Rattle.message_checks.proofs.notifications.first_wrong_volume.Goals as goal
use Rattle.message_checks.proofs.notifications.first_wrong_volume.Goals.{After-volume_out, At-loop-k}

-- the place that the answers look back to

abbrev turn_of : After-volume_out → At-loop-k
turn_of c = (goal.at.After-volume_out c).At-loop-k

-- the test of the entry at the loop's place
tested : (c : After-volume_out) → c.volume_out.result ≡ wrong_volume (turn_of c).args.n (turn_of c).loop-k.k
tested c = c.volume_out.ensures ∙ rw (to_z-of_z {w = w32} (sfits_of c.volume_out-arg-1.given))

pub loop-k-init : goal.loop-k-init
loop-k-init c = some-none _

pub returns-then-volume_out : goal.returns-then-volume_out
returns-then-volume_out c =
    let l = c.loop-k in
    volume-found c.args.n l.k (omega (arith, c.entries_inside-k-end.ensures)) l.invariant (omega (arith, c.entries_inside-k-end.ensures)) (sym (tested (goal.at.returns-then-volume_out c).After-volume_out) ∙ c.if-volume_out.true)

pub loop-k-preserved : goal.loop-k-preserved
loop-k-preserved c =
    let n = c.args.n in
    let l = c.loop-k in
    let right : wrong_volume n l.k ≡ false = sym (tested (goal.at.loop-k-preserved c).After-volume_out) ∙ c.if-volume_out.false in
    some_more l.k (wrong_volume n) ∙ rw (l.invariant, right)

pub returns : goal.returns
returns c =
    let l = c.loop-k in
    volumes-ended c.args.n l.k (omega (arith, c.entries_inside-k-end.ensures)) l.invariant (entries-length c.args.n c.well_formed.0) (omega (arith, c.entries_inside-k-end.ensures))
