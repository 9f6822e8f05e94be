-- Input that comes in parts prints the same sheet.
pub mod InParts
pub mod ByTurns
