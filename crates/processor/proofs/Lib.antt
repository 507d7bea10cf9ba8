pub mod Between
mod Chosen
mod Doing
mod EffectsFit
pub mod Failed
pub mod Faults
pub mod Fitting
mod Found
mod Going
mod Outside
pub mod Kept
pub mod Referred
mod Registered
pub mod Whole
