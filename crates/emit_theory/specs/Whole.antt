-- Emission from its beginning to its end.
pub mod Opening
pub mod Beginning
pub mod Shown
pub mod Emitting
