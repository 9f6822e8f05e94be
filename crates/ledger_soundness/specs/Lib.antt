-- The parts that the functions of `soundness` are proved by.
pub mod Parts
