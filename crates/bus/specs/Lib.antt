pub mod Bus
pub mod Refusal
pub mod Run
pub mod Loops
