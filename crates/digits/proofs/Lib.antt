pub mod Pairs
pub mod Values
pub mod Decimals
