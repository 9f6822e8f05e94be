-- No two different results keep one promise of reading.
use mathlib.Core.Path.{sym, ◌∙◌}
use Rattle.limits.proofs.AnswerNumbers.{same-answer}
use Rattle.laws.proofs.Cases.{one-outcome}
use Rattle.laws.proofs.Promises.{OneResult}
use Rattle.setup_reading.proofs.Outcomes.{setup-read-tells}
use Rattle.setup_reading.proofs.padding_set.Reads as padding-set
use Rattle.setup_reading.proofs.content_in.Reads as content-in
use Rattle.setup_reading.proofs.reading_refusal.Reads as reading-refusal
use Rattle.setup_reading.proofs.read_setup.Reads as read-setup

pub unique-padding-set : OneResult padding-set.Post
unique-padding-set κs a r r' s s' = one-outcome

pub unique-content-in : OneResult content-in.Post
unique-content-in κs a r r' s s' p q =
    let outcome = same-answer r.outcome r'.outcome (p.0 ∙ sym q.0) in
    let setup = p.1 ∙ sym q.1 in
    λ i. record { outcome = outcome i; setup = setup i }

pub unique-reading-refusal : OneResult reading-refusal.Post
unique-reading-refusal κs a r r' s s' p q = same-answer r r' (p ∙ sym q)

pub unique-read-setup : OneResult read-setup.Post
unique-read-setup κs a r r' s s' p q = setup-read-tells r r' (p ∙ sym q)
