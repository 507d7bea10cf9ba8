pub mod Cells
pub mod Functions
pub mod Operations
pub mod Text
