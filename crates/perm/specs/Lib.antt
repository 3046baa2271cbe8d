pub mod Lists
pub mod Permutation
pub mod Cycle
pub mod Array
pub mod Checks
pub mod Pairs
