-- The definitions that the promises cite.
pub mod Counts
pub mod Fnv
