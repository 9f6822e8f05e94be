-- Laws that the functions' proofs share; the calls in meaning's terms; and that no two outcomes meet one promise.
pub mod StateLaws
pub mod SoundParts
pub mod OpeningLaws
pub mod UniqueState
pub mod PackedOpening
