-- The laws of the definitions.
pub mod Answered
pub mod Batch
pub mod Taking
pub mod Course
pub mod Stored
pub mod LentOn
pub mod Repeated
pub mod Unrolled
pub mod Listed
