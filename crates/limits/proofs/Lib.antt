pub mod AnswerNumbers
pub mod Told
pub mod KindNumbers
