-- The rules that `checks` tries.
pub mod Checks
