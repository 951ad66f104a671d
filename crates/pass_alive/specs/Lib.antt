pub mod Life
pub mod Sets
pub mod Areas
pub mod Told
pub mod Laws
pub mod Private
