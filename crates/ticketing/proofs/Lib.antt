-- The laws of the definition.
pub mod Tickets
