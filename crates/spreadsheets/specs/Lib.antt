-- Document 02, A5: what a spreadsheet file is, the entries that it holds, what is refused and where, and how entries are written.
pub mod Languages
pub mod Entries
pub mod Refusals
pub mod Writing
pub mod Structs
