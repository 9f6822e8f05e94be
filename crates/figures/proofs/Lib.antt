-- Figures in MWh, and that no two outcomes meet one promise.
pub mod MwhLaws
pub mod Unique
