pub mod Session
pub mod Images
pub mod Row
pub mod Overdrive
pub mod Table
pub mod Examples
pub mod Judged
