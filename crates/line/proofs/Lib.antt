pub mod Transfers
pub mod Range
pub mod Bytes
