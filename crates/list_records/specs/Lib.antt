-- What the listing of a pack is, and how it is put together.
pub mod Lines
pub mod Added
