-- Words that only the contracts within this crate cite.
pub mod PairSteps
