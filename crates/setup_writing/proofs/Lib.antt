-- Laws that the functions' proofs share; the round trips in the code's terms; and that no two outcomes meet one promise.
pub mod ValuesFit
pub mod WriteParts
pub mod EitherWay
pub mod Unique
