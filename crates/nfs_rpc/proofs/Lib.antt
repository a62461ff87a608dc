pub mod FragmentLemmas
pub mod StreamLemmas
pub mod FragmentByteLemmas
pub mod OpaqueRestLemmas
