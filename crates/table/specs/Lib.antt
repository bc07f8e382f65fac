pub mod Faults
pub mod Filled
pub mod Parting
pub mod Same
