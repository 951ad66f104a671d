pub mod Rule
pub mod Sides
