-- Definitions for private calls and for the insides of types. No public clause rests on them.
pub mod Inverses
pub mod Narrow
pub mod Sides
pub mod Stones
pub mod Words
