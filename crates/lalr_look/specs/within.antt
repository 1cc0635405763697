-- Words that only the contracts and proofs within this crate cite.
pub mod Flow
pub mod Graph
pub mod Kernel
pub mod LookGraph
pub mod Numbered
pub mod Rests
pub mod Rising
pub mod Rows
