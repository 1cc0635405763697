pub mod TreeText
pub mod within
