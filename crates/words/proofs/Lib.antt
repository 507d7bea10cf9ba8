pub mod BitByBit
mod Counted
mod Extended
mod OctalDigits
mod Ordered
mod Scaling
mod Selected
mod Shifted
pub mod Widths
