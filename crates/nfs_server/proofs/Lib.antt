mod AnsweredLinesLemmas
mod AnswersToLemmas
pub mod CallbackTextLemmas
mod ConversationLemmas
mod ChangesLemmas
mod CrossingLemmas
mod FragmentPieceLemmas
mod HeardInputLemmas
mod LineLemmas
mod SentLineLemmas
mod FragmentHeaderLemmas
pub mod CommandLineLemmas
pub mod GrantedAnswerLemmas
pub mod MessageSizes
pub mod StartLemmas
mod SharingLemmas
