-- A field has one value: any two that keep the promise are equal.
use Rattle.laws.proofs.Cases.{one-outcome}
use Rattle.laws.proofs.Promises.{OneResult}
use Rattle.message_fields.proofs.field_in.Reads as field_in

pub unique-field-in : OneResult field_in.Post
unique-field-in κs a r r' s s' = one-outcome
