mod Laws
pub mod Sessions
