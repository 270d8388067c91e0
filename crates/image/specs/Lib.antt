pub mod Image
pub mod Refusal
pub mod Counted
