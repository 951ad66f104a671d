pub mod Refused
pub mod Confirming
