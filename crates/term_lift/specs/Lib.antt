-- Ground nodes lifted into the store: what the words say, and what each turn of the walk leaves of it.
pub mod Lifts
pub mod Alike
pub mod Memo
pub mod Keys
pub mod Nodes
pub mod Turns
pub mod Runs
-- A key interned, and words written elsewhere: what was lifted is still.
pub mod Kept
