-- The laws that the functions of `position` are proved by, what the functions promise and their answers are worth, and that each promise has one outcome.
pub mod WholeRanges
pub mod TotalLaws
pub mod Gathering
pub mod DayLaws
pub mod FigureLaws
pub mod SameOutcomes
pub mod Promises
pub mod TotalTheorems
pub mod UniqueTotals
