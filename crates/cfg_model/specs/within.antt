-- Words that only the contracts and proofs within this crate cite.
pub mod Closing
pub mod FollowParts
pub mod Gather
pub mod Hiding
pub mod Middles
pub mod Missing
pub mod Parts
pub mod Spreading
pub mod Runs
pub mod Trailers
