-- Text in a lent buffer, and what a write adds to it.
pub mod Written
-- Where a term's nodes are read, and what its text comes to by the frames of a walk.
pub mod Source
pub mod Left
-- What the writers of nodes and terms ask and promise.
pub mod Nodes
pub mod Walk
