-- The figures' sums.
pub mod Totals
-- The classes of a pack, made: what is asked, and what is answered.
pub mod Class
pub mod All
