-- The laws of the definitions.
pub mod Judge
pub mod CauseTwo
pub mod Joining
pub mod Plans
pub mod Covered
