pub mod Refusal
pub mod Count
