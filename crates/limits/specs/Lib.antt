pub mod Refusals
pub mod Kinds
