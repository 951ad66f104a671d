pub mod Decided
pub mod Private
