pub mod Machine
pub mod Walk
