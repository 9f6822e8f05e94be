-- Bytes that are refused have no field but zero; of the others the kind first, then the field of the kind's own part.
use mathlib.Core.Bool.{true, false}
use mathlib.Core.Logic.{◌≢◌}
use mathlib.Core.Path.{◌≡◌, refl, sym, ◌∙◌}
use mir.Facts.{to_z_pos}
use mir.Syntax.{w64}
use native.Mathlib.Omega.{arith}
use borrow.Author.Tests.{ne_eqb}
use Rattle.words.specs.Rules.{answer}
use Rattle.std.specs.Prelude.{Result, Ok, Err}
use Rattle.std.specs.Result.{is_err}
use Rattle.limits.specs.declared.refusals.Refusal.{Refusal}
use Rattle.limits.specs.Refusals.{answer_of}
use Rattle.limits.proofs.AnswerNumbers as AnswerNumbers
use Rattle.laws.proofs.Machine.{back}
use Rattle.meaning.specs.PackedMessages.{kind_in, reading_rules}
use Rattle.message_fields.proofs.FieldLaws.{refused-field, field-by-kind}
use Rattle.message_fields.proofs.field_in.Goals as goal
use Rattle.message_fields.proofs.field_in.Goals.{After-kind_in-kind}

-- an outcome is done just where its number is 0
is-done : (r : Result Unit Refusal) → is_err r ≡ false → answer_of r ≡ 0
is-done (Ok _) e = refl
is-done (Err _) e = absurd (cc)

never-done : (r : Result Unit Refusal) → is_err r ≡ true → answer_of r ≢ 0
never-done (Ok _) e z = absurd (cc)
never-done (Err r) e z = AnswerNumbers.never-done r z

pub returns-then-is_err : goal.returns-then-is_err
returns-then-is_err c =
    let a = c.args in
    sym (refused-field a.bytes.now a.field (λ z. never-done c.reading_refusal.result (sym c.is_err.ensures.value ∙ c.if-is_err.true) (c.reading_refusal.ensures ∙ z)))

read : (c : After-kind_in-kind) → answer (reading_rules c.args.bytes.now) ≡ 0
read c = sym c.reading_refusal.ensures ∙ is-done c.reading_refusal.result (sym c.is_err.ensures.value ∙ c.if-is_err.false)

kind : (c : After-kind_in-kind) → kind_in c.args.bytes.now ≡ c.kind_in-kind.result
kind c = sym c.kind_in-kind.ensures

pub returns-then-field-eq0 : goal.returns-then-field-eq0
returns-then-field-eq0 c =
    let a = c.args in
    rw (field-by-kind a.bytes.now a.field (read (goal.at.returns-then-field-eq0 c).After-kind_in-kind), c.if-field-eq0.true, kind (goal.at.returns-then-field-eq0 c).After-kind_in-kind) (to_z_pos w64 (omega arith))

pub returns-in-1 : goal.returns-in-1
returns-in-1 c =
    let a = c.args in
    rw (
      back w64 c.notification_field_in.result c.notification_field_in.type_inv,
      c.notification_field_in.ensures,
      field-by-kind a.bytes.now a.field (read (goal.at.returns-in-1 c).After-kind_in-kind),
      ne_eqb a.field 0 c.if-field-eq0.false,
      kind (goal.at.returns-in-1 c).After-kind_in-kind ∙ c.in-1.is,
    )

pub returns-in-2 : goal.returns-in-2
returns-in-2 c =
    let a = c.args in
    rw (
      back w64 c.nullification_field_in.result c.nullification_field_in.type_inv,
      c.nullification_field_in.ensures,
      field-by-kind a.bytes.now a.field (read (goal.at.returns-in-2 c).After-kind_in-kind),
      ne_eqb a.field 0 c.if-field-eq0.false,
      kind (goal.at.returns-in-2 c).After-kind_in-kind ∙ c.in-2.is,
    )

pub returns-in_default : goal.returns-in_default
returns-in_default c =
    let a = c.args in
    rw (
      field-by-kind a.bytes.now a.field (read (goal.at.returns-in_default c).After-kind_in-kind),
      ne_eqb a.field 0 c.if-field-eq0.false,
      kind (goal.at.returns-in_default c).After-kind_in-kind,
      ne_eqb c.kind_in-kind.result 1 (omega arith),
      ne_eqb c.kind_in-kind.result 2 (omega arith),
    )
