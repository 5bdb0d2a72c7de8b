-- The laws of the receive call.
pub mod Requests
pub mod Pieces
pub mod Calls
