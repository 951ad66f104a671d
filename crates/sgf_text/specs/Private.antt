-- Definitions for private calls and for the insides of types. No public clause rests on them.
pub mod TreeCodes
pub mod Held
