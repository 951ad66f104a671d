pub mod Common
pub mod Showing
pub mod Deepening
