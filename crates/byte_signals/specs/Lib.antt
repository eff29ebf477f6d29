pub mod Signals
pub mod Inner
