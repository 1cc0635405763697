mod AtTheLimit
mod Examples
pub mod Completing
pub mod Exact
pub mod Filling
pub mod Fitting
pub mod Joining
pub mod Least
pub mod Made
pub mod Moving
pub mod OneAnswer
pub mod Outcome
