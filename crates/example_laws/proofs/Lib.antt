mod Rows
mod SkipRom
pub mod Examples
pub mod Judged
