-- The tables, what their rows are made of, and sequences of takes that demand 3 speaks of.
pub mod Calls
pub mod Holding
pub mod Examples
pub mod Posts
pub mod Taken
