-- The definitions that the promises cite.
pub mod Draw
pub mod Stored
