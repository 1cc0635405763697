pub mod FirstPlaces
pub mod MakersSoFar
