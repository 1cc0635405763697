pub mod Counted
mod EquationExamples
mod Examples
pub mod FitsByStep
pub mod IdsJoin
mod OrderedExamples
pub mod PlacesNumbered
pub mod SetsByPlace
pub mod SolvesByEquations
pub mod Tries
pub mod ValueSet
pub mod TypesInRange
