-- What is shown of one place.
pub mod Figures
