-- Lemmas of the crate.
pub mod Digits
pub mod Lines
