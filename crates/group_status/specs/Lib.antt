pub mod About
pub mod After
pub mod First
pub mod Lines
pub mod Names
pub mod Winner
