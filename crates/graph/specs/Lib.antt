-- The term graph in lent cells: what the words stand for, and what its functions leave of it.
pub mod Places
pub mod Cells
pub mod Links
pub mod Joins
pub mod Pushes
pub mod Nodes
pub mod Stack
pub mod Inner
