-- A refusal leaves the three tables; otherwise its slot holds its identifier, and each side that it writes is rewritten there.
use mathlib.Core.Path.{◌≡◌, sym, ap, ◌∙◌}
use Prim.Native.Nat.{◌<◌}
use native.Mathlib.Omega.{arith}
use lib.ListN.{length}
use Rattle.std.proofs.lemmas.Result.{err_from_is_err_and}
use Rattle.words.specs.Rules.{answer}
use Rattle.meaning.specs.Ledgers.{contracts, slot_for, one, two}
use Rattle.meaning.specs.Messages as Messages
use Rattle.meaning.specs.Books as Meaning
use Rattle.meaning.specs.Notifications.{notification_rules}
use Rattle.messages.specs.Structs.{notification_of}
use Rattle.calls.specs.Answers.{notified_of}
use Rattle.book.specs.Structs.{book_of}
use Rattle.calls.specs.declared.Notified.{Notified}
use Rattle.book.proofs.OpeningLaws.{number-refuses}
use Rattle.book.proofs.StateLaws.{clock-time}
use Rattle.calls.proofs.CallLaws.{call-refused, sound-slots}
use Rattle.notification_kinds.proofs.KindLaws.{row-writes-one, row-writes-two}
use Rattle.message_effects.proofs.EffectLaws.{accepted-slot}
use Rattle.calls.proofs.NotifyLaws.{notification_call, notification-answer, notified-done, notified-number, held-notified, side-notified}
use Rattle.calls.proofs.sound_book.do_notification.Goals as goal
use Rattle.calls.proofs.sound_book.do_notification.Goals.{In_ok-accepted}

pub returns-in_err-accepted : goal.returns-in_err-accepted
returns-in_err-accepted c =
    let a = c.args in
    let whole = book_of a.b a.held.now a.side1.now a.side2.now in
    let note = notification_of a.n in
    let told = c.in_err-accepted.ensures in
    let p = err_from_is_err_and c.from_residual.result c.from_residual.ensures.1 in
    let e = ap (λ (r : Notified). r.answer) told ∙ notified-number whole note ∙ notification-answer whole note in
    let stays = call-refused whole (notification_call whole note) (λ z. number-refuses c.in_err-accepted.field-0.0.refusal (e ∙ z)) in
    rw (p.1, p.2) (
      told,
      sym (ap (λ (w : Meaning.Book contracts). w.ledger.held) stays),
      sym (ap (λ (w : Meaning.Book contracts). w.ledger.side1) stays),
      sym (ap (λ (w : Meaning.Book contracts). w.ledger.side2) stays),
    )

-- what is known of an accepted one
module _ (c : In_ok-accepted) where
  abbrev whole : Meaning.Book contracts
  whole = book_of c.args.b c.args.held.now c.args.side1.now c.args.side2.now

  abbrev note : Messages.Notification contracts
  note = notification_of c.args.n

  done : answer (notification_rules whole note) ≡ 0
  done = sym (ap (λ (r : Notified). r.answer) c.in_ok-accepted.ensures ∙ notified-number whole note)

  slot : c.in_ok-accepted.accepted.slot ≡ slot_for c.args.held.now note.identifier
  slot = ap (λ (r : Notified). r.slot) (c.in_ok-accepted.ensures ∙ ap notified_of (notified-done whole note done))

  slot-inside : c.in_ok-accepted.accepted.slot < length c.args.held.now
  slot-inside = omega (arith, slot, accepted-slot whole note done)

  slot-few : c.in_ok-accepted.accepted.slot < 256
  slot-few =
      let a = c.args in
      omega (arith, slot-inside, sound-slots a.b a.held.now a.side1.now a.side2.now c.requires)

pub bounds-held-slot : goal.bounds-held-slot
bounds-held-slot c = slot-inside (goal.at.bounds-held-slot c).In_ok-accepted

pub overflow_cast-slot-2 : goal.overflow_cast-slot-2
overflow_cast-slot-2 c = omega (arith, slot-few (goal.at.overflow_cast-slot-2 c).In_ok-accepted)

pub returns : goal.returns
unfolding notification_of
returns c =
    let accepted = (goal.at.returns c).In_ok-accepted in
    let a = c.args in
    let row = c.row_of-row.ensures in
    let timed = clock-time a.b c.clock_of-c.ensures in (
      c.in_ok-accepted.ensures,
      held-notified (whole accepted) (note accepted) (done accepted) _ _ (slot accepted) c.entry_of.ensures,
      c.write_slot.ensures.0 ∙ side-notified (whole accepted) (note accepted) (done accepted) one _ _ _ (c.writes_side1.ensures ∙ row-writes-one a.b a.n _ row) timed (slot accepted),
      c.write_slot.ensures.1 ∙ side-notified (whole accepted) (note accepted) (done accepted) two _ _ _ (c.writes_side2.ensures ∙ row-writes-two a.b a.n _ row) timed (slot accepted),
    )
