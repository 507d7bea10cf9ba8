mod Again
pub mod Fitting
mod Read
