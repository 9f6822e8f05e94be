-- A volume's text by its sign; the lines that are left to write; the round trip in the code's terms; and that no two outcomes meet one promise.
pub mod Signs
pub mod LinesLeft
pub mod Back
pub mod Unique
pub mod EitherWay
