-- The words of reading back's table: what stands there, and what stays.
pub mod Words
pub mod Moved
pub mod Asked
pub mod Keys
-- One root read back: the table's words, what is asked of a node, and the ways a root goes.
pub mod Roots
pub mod Given
pub mod Ways
pub mod Noted
-- Reading back by a stack: its frames, its turns, and how many there are.
pub mod Stacks
pub mod Frames
pub mod Grown
pub mod Turns
pub mod Turned
pub mod Measure
pub mod Runs
pub mod Starts
-- The same by what reading back has at hand.
pub mod AtHand
