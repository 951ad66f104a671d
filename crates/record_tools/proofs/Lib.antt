pub mod Collection
pub mod Outputs
