pub mod Bare
pub mod Page
pub mod Puzzle
