-- The definitions.
pub mod Publishing
