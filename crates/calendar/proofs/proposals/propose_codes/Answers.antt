-- The refusal decides.
use Rattle.std.proofs.Common.{◌≡◌, ℕ, sym, rules}
use Rattle.std.specs.Prelude.{Err}
use Rattle.limits.specs.declared.refusals.Refusal.{Refusal}
use Rattle.limits.specs.Refusals.{number_of}
use Rattle.limits.proofs.AnswerNumbers.{not-done}
use Rattle.words.specs.Rules.{answer}
use Rattle.calendar.specs.Answers.{proposal_rules, proposed}
use Rattle.calendar.specs.Outcomes.{as_proposed}
use Rattle.calendar.proofs.Following.{proposal-inside}
use Rattle.calendar.proofs.proposals.propose_codes.Goals as goal

refused : (first days : ℕ) (r : Refusal) → number_of r ≡ answer (proposal_rules first days) → as_proposed (Err r) ≡ proposed first days
unfolding proposed
refused first days r e = rw (sym e, not-done r)

pub returns-in_err-proposal_refusal : goal.returns-in_err-proposal_refusal
returns-in_err-proposal_refusal c =
    let e = refused c.args.first c.args.days c.in_err-proposal_refusal.field-0.0 c.in_err-proposal_refusal.ensures in search (rules, e)

pub codes_from-requires : goal.codes_from-requires
codes_from-requires c = (proposal-inside c.args.first c.args.days (sym c.in_ok-proposal_refusal.ensures)).2

pub returns : goal.returns
unfolding proposed
returns c = rw (sym c.in_ok-proposal_refusal.ensures, c.codes_from.ensures)
