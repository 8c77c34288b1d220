pub mod OrderedWalk
pub mod WholeOrdered
