pub mod Below
pub mod Audit
pub mod Laws
pub mod Answer
pub mod Faults
pub mod Questions
pub mod Private
