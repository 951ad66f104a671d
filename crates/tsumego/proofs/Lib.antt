pub mod Common
pub mod Headline
pub mod Running
pub mod Answering
pub mod Sessions
pub mod Telling
