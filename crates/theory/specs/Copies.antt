-- What is put into a graph: fresh copies of patterns, instances of terms, a rule's variables.
pub mod Begin
pub mod Push
pub mod Instantiate
pub mod Terms
pub mod Parts
pub mod Copying
pub mod CopyNode
pub mod Copy
pub mod Variables
