pub mod Table
pub mod Calls
