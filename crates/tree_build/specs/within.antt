-- Words that only the contracts and proofs within this crate cite.
pub mod Laying
pub mod Replaying
pub mod Spans
