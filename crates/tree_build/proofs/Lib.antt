pub mod Conforming
mod Examples
pub mod NodesLinked
pub mod NodesNumbered
pub mod NodeLaid
pub mod Replayed
pub mod Showing
pub mod TokensListed
pub mod Typed
pub mod Visiting
