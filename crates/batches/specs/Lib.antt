-- The definitions, in reading order.
pub mod BatchSequence
pub mod BatchCalls
pub mod BatchTurns
