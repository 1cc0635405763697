pub mod AgSeen
pub mod Counts
pub mod LineHeads
