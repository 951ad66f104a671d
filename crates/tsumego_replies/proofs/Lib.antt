pub mod Common
pub mod Recording
pub mod Phrases
pub mod Saying
pub mod Claims
pub mod Searching
pub mod Judged
pub mod Front
