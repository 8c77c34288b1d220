pub mod OrderedLine
