pub mod Rounds
pub mod OffersSoFar
pub mod RowDone
pub mod RulesByType
pub mod NodeClosed
pub mod OneNode
pub mod AllLabelled
