mod OneClass
mod ClassSets
mod Forms
mod OneReading
mod Begin
mod BeginClass
mod Characters
mod Texts
mod Meant
mod Values
mod TokensSoFar
mod FirstLine
mod LinesSoFar
mod SectionLines
pub mod PassedOn
pub mod Lists
pub mod Views
pub mod OneFile
pub mod OneSections
mod Spelled
pub mod Least
pub mod Numbers
pub mod Sizes
pub mod Others
pub mod Parting
pub mod SomeReading
pub mod SomeSections
pub mod SectionExamples
mod Examples
mod LineExamples
