-- The laws.
pub mod Lent
