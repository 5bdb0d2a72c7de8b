-- The laws.
pub mod Publishing
