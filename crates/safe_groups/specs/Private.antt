pub mod Spaces
pub mod Moves
pub mod Order
pub mod Verdict
pub mod Liberties
