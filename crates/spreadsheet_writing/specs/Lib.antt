-- What writing answers.
pub mod Structs
