-- What an accepted message makes of the places of a side.
pub mod Placing
pub mod Effects
