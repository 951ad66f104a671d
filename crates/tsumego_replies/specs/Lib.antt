pub mod Bounds
pub mod Asking
pub mod Texts
pub mod Claims
pub mod Solutions
pub mod Answers
pub mod Replies
