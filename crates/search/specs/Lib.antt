pub mod Refusal
pub mod Found
pub mod Loops
