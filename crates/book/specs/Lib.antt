-- How a book by value and its lent tables hold the book that meaning speaks of, and what the calls give.
pub mod Structs
pub mod Answers
