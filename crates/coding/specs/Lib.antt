pub mod Coding
pub mod Models
pub mod Inner
