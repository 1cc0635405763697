pub mod AgShapes
pub mod AgPlaces
pub mod AgAttributes
pub mod AgEquations
pub mod AgFaults
pub mod AgRefusals
pub mod AgPromise
pub mod within
