-- Definitions for private calls and for the insides of types. No public clause rests on them.
pub mod Following
pub mod Pieces
pub mod Sound
pub mod Taking
