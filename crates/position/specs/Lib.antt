-- What the questions of `position` answer, beside meaning's definitions, and the parts that they are proved by.
pub mod Counting
pub mod Totals
