pub mod Promise
pub mod Table
pub mod within
