pub mod Prices
pub mod Payments
pub mod Investments
