-- What a memo's table holds, by itself and in a part of work.
pub mod Recall
pub mod Lent
