pub mod Readings
pub mod One
pub mod Names
pub mod OneFault
pub mod Frame
mod FaultExamples
mod WordExamples
pub mod KindOrder
pub mod Passing
pub mod MetNames
pub mod Named
pub mod Shaped
pub mod Staged
pub mod PartLists
pub mod Using
pub mod Counting
