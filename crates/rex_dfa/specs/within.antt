-- Words that only the contracts within this crate cite.
pub mod Alike
pub mod Building
pub mod Dead
pub mod Main
pub mod Marks
pub mod Parts
pub mod Positions
pub mod Rows
pub mod Splits
pub mod Subset
pub mod Walked
