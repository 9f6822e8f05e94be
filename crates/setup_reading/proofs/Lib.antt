-- Laws that the functions' proofs share, and that no two outcomes meet one promise.
pub mod ReadParts
pub mod ContentLaws
pub mod Outcomes
pub mod Unique
