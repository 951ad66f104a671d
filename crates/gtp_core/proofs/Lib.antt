pub mod Common
pub mod Examples
pub mod Pieces
pub mod Telling
pub mod Orders
pub mod Sound
pub mod Running
