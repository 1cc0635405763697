pub mod Ran
pub mod Wanted
pub mod within
pub mod Words
