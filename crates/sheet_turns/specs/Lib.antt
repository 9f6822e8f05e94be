-- How the sheet program goes through its input.
pub mod Turns
