pub mod Order
pub mod Blocks
pub mod Listing
pub mod Threes
