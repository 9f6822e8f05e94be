-- No two different outcomes keep one promise of `fields`: each promise is one equation for the result or for the buffer left.
use Rattle.laws.proofs.Cases.{one-outcome}
use Rattle.laws.proofs.Promises.{OneOutcome, OneResult}
use Rattle.fields.proofs.read_field.Reads as read-field
use Rattle.fields.proofs.write_field.Reads as write-field
use Rattle.fields.proofs.read_long.Reads as read-long
use Rattle.fields.proofs.read_fields.Reads as read-fields
use Rattle.fields.proofs.write_fields.Reads as write-fields
use Rattle.fields.proofs.volume_of_bits.Reads as volume-of-bits
use Rattle.fields.proofs.volume_fits.Reads as volume-fits
use Rattle.fields.proofs.bits_of_volume.Reads as bits-of-volume
use Rattle.fields.proofs.whole_bits.bytes_of.Reads as bytes-of
use Rattle.fields.proofs.whole_bits.padding_of.Reads as padding-of

pub unique-read-field : OneResult read-field.Post
unique-read-field κs a r r' s s' = one-outcome

pub unique-read-long : OneResult read-long.Post
unique-read-long κs a r r' s s' = one-outcome

pub unique-write-field : OneOutcome write-field.Post (λ κs r s. s.0.now)
unique-write-field κs a r r' s s' = one-outcome

pub unique-read-fields : OneOutcome read-fields.Post (λ κs r s. s.1.1.1.0.now)
unique-read-fields κs a r r' s s' = one-outcome

pub unique-write-fields : OneOutcome write-fields.Post (λ κs r s. s.0.now)
unique-write-fields κs a r r' s s' = one-outcome

pub unique-volume-of-bits : OneResult volume-of-bits.Post
unique-volume-of-bits κs a r r' s s' = one-outcome

pub unique-volume-fits : OneResult volume-fits.Post
unique-volume-fits κs a r r' s s' = one-outcome

pub unique-bits-of-volume : OneResult bits-of-volume.Post
unique-bits-of-volume κs a r r' s s' = one-outcome

pub unique-bytes-of : OneResult bytes-of.Post
unique-bytes-of κs a r r' s s' = one-outcome

pub unique-padding-of : OneResult padding-of.Post
unique-padding-of κs a r r' s s' = one-outcome
