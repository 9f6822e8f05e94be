-- What the calls on a book give and leave.
pub mod Answers
