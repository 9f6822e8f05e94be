-- What the questions of `bars` answer, in the words of document 01's "Matching, totals, marks".
pub mod Marks
pub mod Rows
