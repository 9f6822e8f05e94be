-- How the structs of `setups` hold what meaning speaks of, and what two of its functions answer.
pub mod Structs
pub mod Parts
