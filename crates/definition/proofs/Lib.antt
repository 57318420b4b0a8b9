-- What is proved of the definition: its laws, and the small packs.
pub mod Laws
pub mod Rows
