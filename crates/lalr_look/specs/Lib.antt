pub mod Promise
pub mod within
