-- No two different results keep one promise of the rules, or of who writes which side.
use Rattle.limits.proofs.AnswerNumbers.{same-answer}
use Rattle.laws.proofs.Cases.{one-outcome}
use Rattle.laws.proofs.Promises.{OneResult}
use Rattle.setups.proofs.authorisations.writes_side1.Reads as writes-side1
use Rattle.setups.proofs.authorisations.writes_side2.Reads as writes-side2
use Rattle.setups.proofs.rules.counts_wrong.Reads as counts-wrong
use Rattle.setups.proofs.rules.last_day_wrong.Reads as last-day-wrong
use Rattle.setups.proofs.rules.lent_wrong.Reads as lent-wrong
use Rattle.setups.proofs.rules.code_refusal.Reads as code-refusal
use Rattle.setups.proofs.rules.amendment_refusal.Reads as amendment-refusal
use Rattle.setups.proofs.rules.code_wrong.Reads as code-wrong
use Rattle.setups.proofs.rules.row_wrong.Reads as row-wrong
use Rattle.setups.proofs.rules.some_row_wrong.Reads as some-row-wrong

pub unique-writes-side1 : OneResult writes-side1.Post
unique-writes-side1 κs a r r' s s' = one-outcome

pub unique-writes-side2 : OneResult writes-side2.Post
unique-writes-side2 κs a r r' s s' = one-outcome

pub unique-counts-wrong : OneResult counts-wrong.Post
unique-counts-wrong κs a r r' s s' = one-outcome

pub unique-last-day-wrong : OneResult last-day-wrong.Post
unique-last-day-wrong κs a r r' s s' = one-outcome

pub unique-lent-wrong : OneResult lent-wrong.Post
unique-lent-wrong κs a r r' s s' = one-outcome

pub unique-code-refusal : OneResult code-refusal.Post
unique-code-refusal κs a r r' s s' p q = same-answer r r' (one-outcome p q)

pub unique-amendment-refusal : OneResult amendment-refusal.Post
unique-amendment-refusal κs a r r' s s' p q = same-answer r r' (one-outcome p q)

pub unique-code-wrong : OneResult code-wrong.Post
unique-code-wrong κs a r r' s s' = one-outcome

pub unique-row-wrong : OneResult row-wrong.Post
unique-row-wrong κs a r r' s s' = one-outcome

pub unique-some-row-wrong : OneResult some-row-wrong.Post
unique-some-row-wrong κs a r r' s s' = one-outcome
