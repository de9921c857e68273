pub mod ParcelLemmas
