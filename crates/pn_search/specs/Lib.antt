pub mod Search
pub mod Private
