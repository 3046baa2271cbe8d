pub mod Search
pub mod Spacing
pub mod Ranking
pub mod Place
pub mod Descent
