pub mod Announced
pub mod ParRows
pub mod OfferRows
