-- What the functions of `fields` mean: the words of Fields.antt, within the limits of a call.
pub mod Narrow
pub mod Fronts
