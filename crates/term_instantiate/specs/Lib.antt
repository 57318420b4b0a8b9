-- A rule's terms in the graph: the terms behind a word, and what stands on the stack for them.
pub mod Suffix
pub mod Building
pub mod Turns
pub mod Whole
pub mod Going
pub mod Variables
pub mod Count
