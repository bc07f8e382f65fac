-- What the program ends with.
pub mod Status
