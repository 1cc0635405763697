-- Words that only the contracts within this crate cite.
pub mod Blocks
pub mod Found
pub mod Furthest
