-- Lemmas of the crate.
pub mod Fills
