pub mod Accounting
pub mod Settling
pub mod Credits
