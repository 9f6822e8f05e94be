-- That no two outcomes meet one promise.
pub mod EightBytes
pub mod Unique
pub mod Fronts
