-- What the reader gives; and its tables and what it keeps of a line, which only promises of private functions cite.
pub mod Reading
pub mod Machine
pub mod Feeding
