pub mod Kills
pub mod Ground
pub mod While
pub mod Laws
pub mod Claims
pub mod Private
