-- Definitions for private calls and for the insides of types. No public clause rests on them.
pub mod Buckets
pub mod Tally
pub mod NewKey
pub mod Stand
