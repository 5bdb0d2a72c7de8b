-- The laws of the definitions.
pub mod Noting
pub mod Chaining
