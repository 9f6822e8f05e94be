-- Laws that the functions' proofs share, and that the promise leaves no choice.
pub mod FieldLaws
pub mod Unique
