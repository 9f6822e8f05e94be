-- Laws that the functions' proofs share; what the functions promise; rows and marks in the code's terms; and that no two outcomes meet one promise.
pub mod RowLaws
pub mod PlaceLaws
pub mod MarkLaws
pub mod MarkPlaces
pub mod DayMarkLaws
pub mod SameOutcomes
pub mod Promises
pub mod MarkTheorems
pub mod UniqueMarks
