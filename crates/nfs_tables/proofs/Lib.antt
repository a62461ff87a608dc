pub mod LendingLemmas
pub mod TwoMapLemmas
