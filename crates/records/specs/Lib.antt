-- What a recorded list says.
pub mod Hex
pub mod Record
