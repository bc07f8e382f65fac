pub mod Walks
pub mod Inputs
pub mod Statements
