pub mod Pair
pub mod Law
pub mod InTurn
pub mod Ranged
