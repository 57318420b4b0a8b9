-- What clearing and writing leave in a buffer.
pub mod Zero
pub mod Text
