-- What the C viewer asks, and what it is shown.
pub mod Asked
pub mod Numbers
