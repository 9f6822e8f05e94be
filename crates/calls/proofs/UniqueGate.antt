-- No two different outcomes keep what closing the next gate promises.
use Rattle.laws.proofs.Cases.{one-outcome}
use Rattle.laws.proofs.Promises.{OneResult}
use Rattle.calls.proofs.Seen.{same-gated}
use Rattle.calls.proofs.gates.close_gate.Reads as close-gate

pub unique-close-gate : OneResult close-gate.Post
unique-close-gate κs a r r' s s' p q = same-gated a.0.book r r' (one-outcome p q)
