pub mod Made
pub mod PartLists
pub mod Places
pub mod Sets
pub mod Steps
pub mod Tasks
