-- What is proved of the definition of emission: its laws, and the small packs.
pub mod Laws
pub mod Rows
