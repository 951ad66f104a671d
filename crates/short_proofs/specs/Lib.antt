pub mod Proved
pub mod Says
pub mod Sound
