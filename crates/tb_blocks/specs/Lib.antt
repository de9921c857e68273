pub mod Sizes
pub mod Rows
pub mod Lists
pub mod Orders
