pub mod Laws
pub mod Pulses
pub mod Range
