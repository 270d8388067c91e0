pub mod Laws
pub mod Directions
pub mod Clock
pub mod Drives
mod Stores
mod Stepping
