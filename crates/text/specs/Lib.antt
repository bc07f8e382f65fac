pub mod Clip
pub mod Meanings
pub mod Faults
pub mod Utf8
pub mod Checker
pub mod Fit
