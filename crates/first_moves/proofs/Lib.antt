pub mod Common
pub mod Judging
pub mod Listing
pub mod Outputs
pub mod Reaching
