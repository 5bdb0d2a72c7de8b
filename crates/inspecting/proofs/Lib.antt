-- The laws of the definitions.
pub mod Indexing
pub mod Passing
pub mod Turns
pub mod Judging
