mod Codes
mod Passes
mod Bits
pub mod Devices
mod Steps
pub mod Driven
mod Walk
mod Whole
mod Trace
mod Image
pub mod Demand
pub mod Going
