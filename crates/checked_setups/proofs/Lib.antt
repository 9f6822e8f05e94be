-- What is proved of checked setups: Theorems.antt and OurChecks.antt of the definitions, Begins.antt and Unique.antt of the code.
pub mod CheckedLaws
pub mod Refused
pub mod Theorems
pub mod OurChecks
pub mod Begins
pub mod Unique
