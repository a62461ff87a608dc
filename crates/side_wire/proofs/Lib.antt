pub mod MessageLaws
pub mod MountLaws
pub mod NlmLaws
