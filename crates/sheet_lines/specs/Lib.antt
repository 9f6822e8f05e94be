-- What it means to write a line into a lent buffer, and the outcomes that two lent buffers hold.
pub mod Outcomes
pub mod Places
