-- The laws of runs of places, days and slots, and that no two outcomes meet one promise.
pub mod Volumes
pub mod Rows
pub mod RowRuns
pub mod DayRuns
pub mod EffectLaws
pub mod PairRows
pub mod Unique
