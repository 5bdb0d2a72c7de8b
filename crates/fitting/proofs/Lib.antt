-- The laws of the definition.
pub mod Fits
