pub mod Parts
pub mod FirstFault
pub mod Declares
pub mod Passes
pub mod Words
pub mod Stages
pub mod Read
