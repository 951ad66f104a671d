mod Table
mod Drawn
mod Keys
pub mod Xors
mod Changes
