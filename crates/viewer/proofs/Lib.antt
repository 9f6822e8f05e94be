-- Laws that the functions' proofs share, that the promises leave no choice, and that the answers are one position, which follows from the history.
pub mod OutOfBook
pub mod Narrowed
pub mod NarrowedTotals
pub mod NarrowedMarks
pub mod NarrowedNullification
pub mod Promises
pub mod PackedPromises
pub mod Unique
pub mod UniqueStructs
pub mod OnePosition
pub mod PositionFromHistory
pub mod CheckedPosition
pub mod MarkTells
