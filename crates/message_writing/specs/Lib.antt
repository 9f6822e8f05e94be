-- What writing answers, and the parts that its own functions are proved by.
pub mod Structs
pub mod Writing
