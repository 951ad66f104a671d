-- Definitions for private calls and for the insides of types. No public clause rests on them.
pub mod Chains
pub mod Quiet
