pub mod Strings
pub mod Cutting
pub mod Models
pub mod Stores
pub mod Calls
pub mod Small
pub mod Fitting
pub mod Claims
