pub mod Areas
pub mod Eyes
pub mod Together
pub mod Play
pub mod Laws
pub mod Ground
pub mod Private
