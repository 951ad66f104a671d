pub mod After
pub mod Dead
pub mod Position
pub mod Proven
pub mod Shape
