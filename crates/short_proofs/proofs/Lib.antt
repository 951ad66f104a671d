pub mod Winners
pub mod Stones
mod Games
mod Readings
