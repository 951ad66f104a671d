-- Definitions for private calls. No public clause rests on them.
pub mod Areas
