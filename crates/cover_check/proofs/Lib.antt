pub mod EachOnce
pub mod Examples
pub mod PairTold
pub mod PastPairs
pub mod RuleGiven
pub mod Sums
pub mod Visited
