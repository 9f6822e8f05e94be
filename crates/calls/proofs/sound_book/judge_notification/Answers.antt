-- The rules that need no table, then those of kind, type and slot; each by its own function.
use mathlib.Core.Path.{◌≡◌, sym, ap, ap₂, ◌∙◌}
use Prim.Native.Nat.{ℕ}
use native.Mathlib.Omega.{arith}
use lib.ListN.{length}
use Rattle.std.proofs.lemmas.Result.{err_from_is_err_and}
use Rattle.words.specs.Rules.{answer, outcome, placeless, Outcome}
use Rattle.limits.specs.Kinds.{number_of_kind, number_found}
use Rattle.meaning.specs.Authorisations.{Authorisation}
use Rattle.meaning.specs.Ledgers.{contracts, slot_for}
use Rattle.meaning.specs.Messages as Messages
use Rattle.meaning.specs.Books as Meaning
use Rattle.meaning.specs.Notifications.{under, kind_of, kind_number, notification_rules}
use Rattle.messages.specs.Structs.{notification_of}
use Rattle.calls.specs.Answers.{notified_of}
use Rattle.message_checks.specs.Checks.{late_rules}
use Rattle.book.specs.Structs.{book_seen}
use Rattle.book.proofs.OpeningLaws.{number-refuses}
use Rattle.message_effects.proofs.EffectLaws.{accepted-slot}
use Rattle.calls.proofs.NotifyLaws.{early-outcome, late-outcome, late-same, notified-refused, notified-done, sound-fits, sound-kind, kind-found}
use Rattle.calls.proofs.sound_book.judge_notification.Goals as goal
use Rattle.calls.proofs.sound_book.judge_notification.Goals.{After-late_refusal}

pub returns-in_err-checks_outcome : goal.returns-in_err-checks_outcome
returns-in_err-checks_outcome c =
    let whole = book_seen c.args.view in
    let note = notification_of c.args.n in
    let fault = c.in_err-checks_outcome.field-0.0 in
    let told = c.in_err-checks_outcome.ensures in
    let p = err_from_is_err_and c.from_residual.result c.from_residual.ensures.1 in
    let early = early-outcome whole note c.requires.0 (λ z. number-refuses fault.refusal (ap (λ (o : Outcome). o.answer) told ∙ z)) in
    rw (p.1, p.2) (sym (ap notified_of (notified-refused whole note _ (early ∙ sym told) (number-refuses fault.refusal))))

pub unwrap-kind-requires : goal.unwrap-kind-requires
unwrap-kind-requires c =
    let view = c.args.view in
    kind-found c.kind_of.result (kind_of (book_seen view) (notification_of c.args.n))
    (c.kind_of.ensures ∙ sound-kind view.book view.held.now view.side1.now view.side2.now (notification_of c.args.n) c.requires.0)

-- what the later rules answer, of the whole book
module _ (c : After-late_refusal) where
  abbrev whole : Meaning.Book contracts
  whole = book_seen c.args.view

  abbrev note : Messages.Notification contracts
  note = notification_of c.args.n

  kind : number_of_kind c.unwrap-kind.result ≡ kind_number (kind_of whole note)
  kind =
      let view = c.args.view in
      sym (ap number_found c.unwrap-kind.ensures)
      ∙ c.kind_of.ensures
      ∙ sound-kind view.book view.held.now view.side1.now view.side2.now note c.requires.0

  type : c.args.row.amendment ≡ (under whole.setting note).type
  unfolding notification_of
  type = ap (λ (row : Authorisation). row.type) c.requires.1

  slot : c.slot_for-slot.result ≡ slot_for whole.ledger.held note.identifier
  unfolding notification_of
  slot = c.slot_for-slot.ensures

  late : (n : ℕ) → n ≡ answer (late_rules c.into.result c.args.row.amendment c.slot_for-slot.result (length c.args.view.held.now))
      → outcome (notification_rules whole note) ≡ placeless n
  late n e =
      late-outcome whole note c.requires.0 (sym (ap (λ (o : Outcome). o.answer) c.in_ok-checks_outcome.ensures))
      ∙ ap placeless (sym (e ∙ late-same whole note c.into.result c.args.row.amendment c.slot_for-slot.result (c.into.ensures ∙ kind) type slot))

  passes : 0 ≡ answer (late_rules c.into.result c.args.row.amendment c.slot_for-slot.result (length c.args.view.held.now))
      → answer (notification_rules whole note) ≡ 0
  passes e = ap (λ (o : Outcome). o.answer) (late 0 e)

pub returns-in_err-late_refusal : goal.returns-in_err-late_refusal
returns-in_err-late_refusal c =
    let at_late = (goal.at.returns-in_err-late_refusal c).After-late_refusal in
    let r = c.in_err-late_refusal.field-0.0 in
    let p = err_from_is_err_and c.from_residual-in_err-late_refusal.result c.from_residual-in_err-late_refusal.ensures.1 in
    rw (p.1, p.2) (sym (ap notified_of (notified-refused (whole at_late) (note at_late) _ (late at_late _ c.in_err-late_refusal.ensures) (number-refuses r))))

pub overflow_cast-result : goal.overflow_cast-result
overflow_cast-result c =
    let at_late = (goal.at.overflow_cast-result c).After-late_refusal in
    let view = c.args.view in
    let inside = accepted-slot (whole at_late) (note at_late) (passes at_late c.in_ok-late_refusal.ensures) in
    let few = (sound-fits view.book view.held.now view.side1.now view.side2.now c.requires.0).slots-few in
    omega (arith, inside, few, slot at_late)

pub returns : goal.returns
returns c =
    let at_late = (goal.at.returns c).After-late_refusal in
    ap₂ (λ (k slot : ℕ). record { answer = 0; kind = k; slot = slot; place = 0 }) (kind at_late) (slot at_late)
    ∙ ap notified_of (sym (notified-done (whole at_late) (note at_late) (passes at_late c.in_ok-late_refusal.ensures)))
