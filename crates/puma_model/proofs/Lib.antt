pub mod ConformingTrees
mod Examples
pub mod FirstMatch
pub mod MatchCode
pub mod MatchSteps
pub mod NodeParts
pub mod OneMatch
pub mod OneResult
pub mod PartsGathered
pub mod PatternForms
pub mod PatternSize
pub mod TypedValues
pub mod UsableTypes
