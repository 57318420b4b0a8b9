-- What reading alone answers, and calls written out.
pub mod Read
