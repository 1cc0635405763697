pub mod CellsStay
mod Examples
pub mod NodeMade
pub mod PairAdded
pub mod PairFound
pub mod PartsStand
mod SlotsStay
