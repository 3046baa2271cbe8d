pub mod Text
pub mod Asked
pub mod Found
pub mod Sheet
pub mod Rewriting
pub mod Form
pub mod Written
