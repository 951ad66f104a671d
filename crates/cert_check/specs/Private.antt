-- Definitions for private calls and for the insides of types. No public clause rests on them.
pub mod Ascending
pub mod Heard
pub mod Inside
pub mod Judging
pub mod Known
pub mod Places
pub mod Results
