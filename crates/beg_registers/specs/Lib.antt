pub mod Assigned
pub mod Bound
pub mod Chosen
pub mod Code
pub mod within
