-- The places and the slots that the functions' proofs speak of, and that no two outcomes meet one promise.
pub mod PlaceLaws
pub mod SlotLaws
pub mod Unique
