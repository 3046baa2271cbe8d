pub mod Refusals
pub mod Counts
pub mod Rule
pub mod Entries
