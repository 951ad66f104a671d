pub mod Games
pub mod Outputs
