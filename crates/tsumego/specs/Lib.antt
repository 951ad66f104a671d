pub mod Outcome
pub mod Laws
pub mod Devices
pub mod Private
