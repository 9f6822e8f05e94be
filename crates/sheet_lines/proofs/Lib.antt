-- Laws of signs, written texts and outcomes in two buffers; how long a line is; and that no two outcomes meet one promise.
pub mod Texts
pub mod Signs
pub mod Outcomes
pub mod Sequences
pub mod Lengths
pub mod Examples
pub mod Unique
