-- Words that only contracts within the crate cite.
pub mod Grammars
pub mod Places
pub mod Refusing
pub mod Scanners
pub mod Steps
pub mod Streams
pub mod Trees
