-- What a setup's struct holds, and that no two outcomes meet one promise.
pub mod SetupHeld
pub mod UniqueRules
pub mod UniqueLayouts
