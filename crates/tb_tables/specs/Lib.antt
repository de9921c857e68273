pub mod Auctions
pub mod Calendar
pub mod Kinds
