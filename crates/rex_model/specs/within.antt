-- Words that only the contracts within this crate cite.
pub mod Best
pub mod Longest
pub mod OneSize
pub mod Pairs
