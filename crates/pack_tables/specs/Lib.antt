-- Laws of records' headers, of names and of rows of words.
pub mod Row
pub mod Name
pub mod Header
-- What the table of one kind of record holds, and its laws.
pub mod Place
pub mod Region
pub mod RegionLaws
-- What the tables of all kinds of records hold, and their laws.
pub mod Catalog
pub mod SameTables
