-- Packs through emit and certgen, by evaluation.
pub mod Emit
pub mod Table
