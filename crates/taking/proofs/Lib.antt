-- What the take is told, and where its record goes.
pub mod Storing
