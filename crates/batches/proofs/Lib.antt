-- The laws.
pub mod Records
pub mod BatchSequence
pub mod BatchCalls
pub mod BatchTurns
