-- Words that only the contracts within this crate cite.
pub mod Collected
pub mod Labelled
pub mod Listed
pub mod Offers
