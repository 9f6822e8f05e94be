-- That the reader's tables follow the languages, and that what it keeps of a line makes the entries.
pub mod TableTests
pub mod RightTables
pub mod Reached
pub mod Judging
pub mod Digits
pub mod Feeds
pub mod Shapes
pub mod Bounds
pub mod Known
pub mod SoFar
pub mod Walk
pub mod Theorems
pub mod Unique
pub mod Examples
