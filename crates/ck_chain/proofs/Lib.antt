pub mod AcceptedOrRefused
mod AstStep
mod Derived
mod Drawing
mod Drawn
pub mod Examples
mod GrammarStep
mod HasRun
mod InOrder
pub mod OneAnswer
mod OneDeriving
mod OneTreeing
mod PassedOn
mod PrintedLine
mod RefusedSpec
mod RexStep
mod ScannedRules
mod SourceExamples
mod ToolExamples
mod Treed
mod Walk
