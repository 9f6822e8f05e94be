-- What is proved of the calendar; Theorems.antt leads to it.
pub mod Years
pub mod Months
pub mod Inverse
pub mod Sundays
pub mod Table
pub mod Following
pub mod MonthTables
pub mod Steps
pub mod Tomorrow
pub mod CodeLengths
pub mod Theorems
pub mod Unique
pub mod Outcomes
