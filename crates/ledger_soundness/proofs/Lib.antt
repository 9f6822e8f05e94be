-- Laws that the functions' proofs share; and that no two outcomes meet one promise.
pub mod Runs
pub mod Scans
pub mod Slots
pub mod Tables
pub mod Unique
