pub mod Answered
pub mod Input
pub mod Says
pub mod Written
