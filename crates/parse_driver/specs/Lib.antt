pub mod Listed
pub mod Parse
pub mod Stream
pub mod within
