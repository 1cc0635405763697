pub mod Evaluated
mod Examples
pub mod ReadsBound
pub mod Resuming
pub mod Settling
pub mod Starting
pub mod Steps
pub mod Turns
pub mod WorthTyped
