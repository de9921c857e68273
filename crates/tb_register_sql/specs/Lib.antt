pub mod Auctions
pub mod Shelves
pub mod Statements
pub mod Memory
pub mod Keepers
