pub mod PriceLemmas
pub mod InvestmentLemmas
pub mod OneLemmas
