-- What the search for a notification's kind asks of a book, and what its parts answer.
pub mod Kinds
