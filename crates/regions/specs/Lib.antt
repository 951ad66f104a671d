pub mod Named
pub mod PutUp
