-- What the parts of the sheet program give, what each promises, and the program's calls one after another.
pub mod Seen
pub mod Parts
pub mod Promises
pub mod Program
