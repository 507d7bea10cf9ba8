pub mod Histories
pub mod Programs
