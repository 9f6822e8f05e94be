-- Laws that the functions' proofs share, and that no two outcomes meet one promise.
pub mod ReadRefusals
pub mod ReadParts
pub mod ReadAgain
pub mod Tells
pub mod Unique
