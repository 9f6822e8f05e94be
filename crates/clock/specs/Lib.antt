-- How a clock by value holds the time that meaning speaks of.
pub mod Structs
