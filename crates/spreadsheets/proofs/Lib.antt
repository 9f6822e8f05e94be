-- Document 02, A5: theorems about spreadsheet files. What the definitions say of files that a person might send; lines counted; that bytes have one
-- answer; that the languages are nested; what is written of entries reads back, is a valid file and is so long; what writing answers.
pub mod OurFiles
pub mod Lines
pub mod LineCount
pub mod Unique
pub mod Nested
pub mod PassedOver
pub mod WrittenNumbers
pub mod ReadBack
pub mod WrittenLength
pub mod WrittenFile
pub mod EntriesIn
pub mod WritingRules
pub mod WritingExamples
