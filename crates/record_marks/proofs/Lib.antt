pub mod Chains
pub mod Letters
pub mod Names
