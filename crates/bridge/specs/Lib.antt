-- What is handed to programs in other languages.
pub mod Fill
pub mod Handed
