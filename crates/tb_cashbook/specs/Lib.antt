pub mod Cashbook
