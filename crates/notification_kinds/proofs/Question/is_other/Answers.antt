-- An unheld slot holds none; of a held one its identifier and both rows' accounts are tested.
use mathlib.Core.Bool.{not, ◌&&◌}
use mathlib.Core.Path.{◌≡◌, sym, ◌∙◌}
use native.Mathlib.Omega.{arith}
use lib.ListN.{get_or}
use Rattle.words.specs.Tests.{◌=?◌}
use Rattle.meaning.specs.Authorisations.{same_accounts}
use Rattle.meaning.specs.Notifications.{is_other}
use Rattle.messages.specs.Structs.{notification_of}
use Rattle.setups.specs.Structs.{no_authorisation}
use Rattle.book.specs.Structs.{origin_row, setting_in}
use Rattle.book.proofs.StateLaws.{place-few, origin-read}
use Rattle.notification_kinds.proofs.KindLaws.{other-held, rows-lent}
use Rattle.notification_kinds.proofs.Question.is_other.Goals as goal

pub returns-then-entry-eq0 : goal.returns-then-entry-eq0
unfolding is_other
returns-then-entry-eq0 c = rw c.if-entry-eq0.true

pub offset_bounds-self-origin_place : goal.offset_bounds-self-origin_place
offset_bounds-self-origin_place c = omega (arith, place-few _ c.origin_place.ensures)

pub bounds-self-origin_place : goal.bounds-self-origin_place
bounds-self-origin_place c = omega (arith, place-few _ c.origin_place.ensures)

pub returns : goal.returns
unfolding notification_of
returns c =
    let q = c.args.self.now in
    let entry = c.args.entry in
    let setup = q.view.book.setup in
    let read : c.origin_row-origin.result ≡ origin_row setup.authorisations entry (get_or setup.rows c.origin_place.result no_authorisation) =
    c.origin_row-origin.ensures in
    let origin = origin-read setup entry (rows-lent q.view.book c.type_inv.self.0.1.1.0) c.origin_place.ensures read in
    (λ i. not (entry =? c.entry_of-own.ensures i) && same_accounts (origin i) (q.is_row i))
    ∙ sym (other-held (setting_in q.view.book) (notification_of q.notification) entry c.if-entry-eq0.false)
