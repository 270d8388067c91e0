pub mod Counts
pub mod Loop
pub mod Shown
