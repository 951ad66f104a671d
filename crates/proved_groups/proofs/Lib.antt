pub mod Deciding
pub mod Dying
pub mod Moving
pub mod Pairing
