-- What is proved about the parts of the sheet program.
pub mod Answers
pub mod LineLaws
pub mod DayLaws
pub mod AccountDays
pub mod TurnLaws
pub mod FirstLaws
pub mod KeptLaws
pub mod Room
pub mod DayRoom
pub mod Fronts
pub mod SameTurns
pub mod TurnsTaken
pub mod SheetPrinted
pub mod Unique
