-- The code is that of the length, and there is none where there is no length.
use Rattle.std.proofs.Common.{◌≡◌, ℕ, ap, ◌∙◌, rules}
use Rattle.std.specs.Prelude.{Ok, Err}
use Rattle.limits.specs.declared.refusals.Refusal.{Refusal}
use Rattle.limits.proofs.AnswerNumbers.{never-done}
use Rattle.laws.proofs.Cases.{on}
use Rattle.calendar.specs.Calendar.{is_day, code_for, code_of}
use Rattle.calendar.specs.Answers.{measured, coded}
use Rattle.calendar.specs.Outcomes.{as_measured, as_coded}
use Rattle.calendar.specs.declared.Measured.{Measured}
use Rattle.calendar.proofs.lengths.code_of_day.Goals as goal

refused : (n : ℕ) (r : Refusal) → as_measured (Err r) ≡ measured n → as_coded (Err r) ≡ coded n
unfolding measured coded
refused n r e =
    on (is_day n)
    (λ t. never-done r (ap (λ (m : Measured). m.answer) e ∙ rw t))
    (λ t. rw t (ap (λ (m : Measured). record { answer = m.answer; code = 0 }) e ∙ rw t))

given : (n periods : ℕ) → as_measured (Ok periods) ≡ measured n → as_coded (Ok (code_for periods)) ≡ coded n
unfolding measured coded code_of
given n periods e =
    on (is_day n)
    (λ t. rw t (ap (λ (m : Measured). record { answer = m.answer; code = code_for m.periods }) e ∙ rw t))
    (λ t. let k : ◌≡◌ {A = ℕ} 0 27 = ap (λ (m : Measured). m.answer) e ∙ rw t in absurd (cc))

pub returns-in_err-day_length : goal.returns-in_err-day_length
returns-in_err-day_length c = let e = refused c.args.day c.in_err-day_length.field-0.0 c.in_err-day_length.ensures in search (rules, e)

pub returns : goal.returns
returns c = rw c.code_for.ensures (given c.args.day c.in_ok-day_length.field-0 c.in_ok-day_length.ensures)
