-- What a question for a field of a message means.
pub mod Questions
