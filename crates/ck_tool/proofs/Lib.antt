mod AnswerOfRun
mod Ends
mod Examples
mod OneOutcome
mod OutcomeExamples
mod SomeOutcome
mod ThreeWords
