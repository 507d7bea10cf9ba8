pub mod Any
pub mod Bank
pub mod Setup
pub mod Laws
