-- The marks of a rule's class and its row: what is asked, and what is answered.
pub mod Flex
pub mod Marks
-- The classes of rules, made: what is asked, and what is answered.
pub mod Done
pub mod Adding
pub mod Making
