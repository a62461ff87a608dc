pub mod Changes
pub mod Choices
pub mod Fronts
pub mod Plans
pub mod Replaces
pub mod Targets
