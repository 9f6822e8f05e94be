-- How the structs of `messages` hold what meaning speaks of, and what one of its functions answers.
pub mod Structs
pub mod Parts
