pub mod PairWalk
pub mod ComparedPairs
pub mod PairCounts
