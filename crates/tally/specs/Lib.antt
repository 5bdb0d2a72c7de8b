-- The definitions that the promises cite.
pub mod Answer
pub mod Tally
