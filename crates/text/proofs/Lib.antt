pub mod Places
pub mod Clipped
pub mod Found
pub mod Encoded
pub mod Sound
pub mod Runs
