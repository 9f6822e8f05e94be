-- Laws of digits and of written texts; and that no two outcomes meet one promise.
pub mod Digits
pub mod Texts
pub mod Unique
