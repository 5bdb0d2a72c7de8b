-- The definitions that the promises cite.
pub mod Pattern
pub mod Calls
