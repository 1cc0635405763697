pub mod CallsToCome
mod Examples
mod FittingExamples
mod ForestExamples
pub mod LabelsRead
pub mod LastIsRoot
pub mod LinksAgree
pub mod NextInPostorder
pub mod NextInPreorder
pub mod NodeAdded
pub mod SomeOrder
pub mod StaysConforming
pub mod TreeGrown
pub mod WalkSteps
