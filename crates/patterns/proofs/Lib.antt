-- What is proved once about patterns.
pub mod Derivatives
pub mod Forms
pub mod Follows
pub mod Same
