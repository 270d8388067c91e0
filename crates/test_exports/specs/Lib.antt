pub mod Looked
pub mod Loops
pub mod Outcome
