pub mod Rules
pub mod Judge
pub mod Refusal
pub mod Loops
