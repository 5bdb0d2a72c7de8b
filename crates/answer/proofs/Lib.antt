-- The laws of the definitions.
pub mod Ends
pub mod LentOn
