pub mod Adding
pub mod After
mod BestOfRules
mod BestPair
pub mod Comes
mod ContextExamples
pub mod EmptyWord
mod Examples
mod FirstOfParts
mod FollowOfParts
mod LongestBySets
mod MeaningExamples
pub mod Meanings
pub mod MeaningsOfParts
pub mod MeantRules
mod MovesOfParts
mod NextPlace
mod OneAnswer
pub mod OneRun
pub mod OneWinner
pub mod PositionsToWords
mod RunExamples
pub mod RunsOfAutomata
mod ScannerExamples
pub mod SomeRun
mod ScanOfWinner
mod SetExamples
mod StepOfParts
mod StepOfString
mod TableExamples
pub mod TakersOfParts
mod WinnerExamples
pub mod Within
pub mod WordsToPositions
