-- Definitions for private calls and for the insides of types. No public clause rests on them.
pub mod Body
pub mod Reading
pub mod Source
pub mod Taken
