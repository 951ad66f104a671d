-- Definitions for private calls and for the insides of types. No public clause rests on them.
pub mod Marks
pub mod Steps
pub mod Buckets
