-- What it means to write a text into a lent buffer.
pub mod Texts
