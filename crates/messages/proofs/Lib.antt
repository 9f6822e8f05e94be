-- Laws that proofs share, and that no two outcomes meet one promise.
pub mod LayoutSizes
pub mod Settled
pub mod Unique
