-- The laws of the searches, and that no two outcomes meet one promise.
pub mod KindLaws
pub mod Unique
