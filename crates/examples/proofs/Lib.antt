-- The claims over the tables, and the sequences.
pub mod Hold
pub mod Posts
pub mod Taken
