-- Words that only the contracts within this crate cite.
pub mod Givings
pub mod Pairs
