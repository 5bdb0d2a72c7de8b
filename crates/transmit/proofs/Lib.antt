-- The laws of the definitions.
pub mod Cases
pub mod Replies
pub mod Paging
pub mod LentOn
pub mod Keeps
pub mod Unchanged
pub mod Frame
pub mod Alone
pub mod Settling
pub mod Covered
pub mod Quick
