pub mod Causes
pub mod Roles
pub mod Ends
pub mod Depth
pub mod Statements
pub mod Laws
pub mod EndLaws
