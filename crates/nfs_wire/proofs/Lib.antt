pub mod ArgumentLaws
pub mod CallLaws
pub mod ResultLaws
pub mod VerifierLaws
pub mod ResultSizes
