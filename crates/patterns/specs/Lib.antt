-- Patterns of byte strings, in which a grammar is written.
pub mod Patterns
