pub mod Carrying
pub mod Pairs
pub mod Between
