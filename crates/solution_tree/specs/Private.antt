-- Definitions for private calls and for the insides of types. No public clause rests on them.
pub mod Asked
pub mod Opened
pub mod Written
