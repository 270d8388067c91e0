pub mod Exchanges
pub mod Reading
pub mod Writing
pub mod Viewing
