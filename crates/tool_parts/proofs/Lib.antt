pub mod Answering
mod Reading
