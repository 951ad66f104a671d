pub mod Asked
pub mod Marked
pub mod Named
pub mod Private
pub mod Supposed
