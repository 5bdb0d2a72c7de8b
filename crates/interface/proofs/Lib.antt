-- The promises of the exported calls.
pub mod LentOn
pub mod PostThenTake
