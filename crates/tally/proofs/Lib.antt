-- The laws of the definitions.
pub mod Agreeing
pub mod Ends
