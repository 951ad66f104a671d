pub mod Lines
pub mod Words
pub mod Commands
pub mod Session
pub mod Serving
pub mod Runs
pub mod Private
