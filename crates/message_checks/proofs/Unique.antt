-- No two different results keep one promise of `message_checks`.
use mathlib.Core.Path.{◌≡◌, refl, sym, ap, ap₂}
use Rattle.std.specs.Prelude.{ℕ, Result, Ok, Err}
use Rattle.laws.proofs.Cases.{one-outcome}
use Rattle.laws.proofs.Promises.{OneResult}
use Rattle.words.specs.Rules.{Outcome}
use Rattle.limits.specs.declared.refusals.Refusal.{Refusal}
use Rattle.limits.proofs.AnswerNumbers.{same-number, never-done, same-answer}
use Rattle.message_checks.specs.declared.Fault.{Fault}
use Rattle.message_checks.specs.Checks.{outcome_told}
use Rattle.message_checks.proofs.notifications.checks_outcome.Reads as checks-outcome
use Rattle.message_checks.proofs.notifications.late_refusal.Reads as late-refusal
use Rattle.message_checks.proofs.nullifications.judge_nullification.Reads as judge-nullification

-- the answer number and the place tell what was refused
pub same-told : (r s : Result Unit Fault) → outcome_told r ≡ outcome_told s → r ≡ s
same-told (Ok _) (Ok _) e = refl
same-told (Ok _) (Err f) e = never-done f.refusal (sym (ap (λ (o : Outcome). o.answer) e))
same-told (Err f) (Ok _) e = never-done f.refusal (ap (λ (o : Outcome). o.answer) e)
same-told (Err f) (Err g) e =
    ap₂ (λ (x : Refusal) (k : ℕ). Err (record { refusal = x; place = k }))
    (same-number f.refusal g.refusal (ap (λ (o : Outcome). o.answer) e))
    (ap (λ (o : Outcome). o.place) e)

pub unique-checks-outcome : OneResult checks-outcome.Post
unique-checks-outcome κs a r r' s s' p q = same-told r r' (one-outcome p q)

pub unique-late-refusal : OneResult late-refusal.Post
unique-late-refusal κs a r r' s s' p q = same-answer r r' (one-outcome p q)

pub unique-judge-nullification : OneResult judge-nullification.Post
unique-judge-nullification κs a r r' s s' p q = same-answer r r' (one-outcome p q)
