pub mod Conforms
pub mod Fitting
pub mod Folds
pub mod Forest
pub mod Linking
pub mod Links
pub mod Orders
