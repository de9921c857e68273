pub mod Amounts
pub mod Offers
pub mod Funds
