pub mod AskedCallLemmas
pub mod ExportBoundsLemmas
pub mod StateBoundsLemmas
pub mod MapChangeLemmas
pub mod NlmChecksLemmas
pub mod ChoiceLemmas
pub mod ContinuesLemmas
mod CookieLemmas
mod DistinctLemmas
mod EndingGrantsLemmas
pub mod NewObjectLemmas
pub mod ExportedLemmas
pub mod ChecksPassedLemmas
mod ExportFaultLemmas
pub mod FileMapLemmas
pub mod FirmLemmas
pub mod ProcedureFollowsLemmas
mod HandleBytesLemmas
pub mod StepKeepsLemmas
mod PageBytesLemmas
pub mod ModesLemmas
mod MountedLemmas
pub mod MovedNameLemmas
pub mod OpeningStateLemmas
pub mod ExportOrderLemmas
pub mod PageLemmas
mod PageByPageLemmas
mod PathPiecesLemmas
mod ResultSizes
mod PostedFormLemmas
mod PostedRefusalLemmas
mod NameStaysLemmas
mod HandleFitsLemmas
mod ReadingLemmas
pub mod ResolveLemmas
mod ChangeTimeLemmas
mod ChangeTimeRisesLemmas
pub mod NlmStepLemmas
pub mod LooseLemmas
pub mod RenameChecksLemmas
mod RefusedCallLemmas
pub mod RenameStateLemmas
pub mod RenumberedExportsLemmas
pub mod ReplacedStateLemmas
mod ReplySizes
pub mod NamesCountedLemmas
pub mod RunChainLemmas
pub mod SideReplyLemmas
pub mod MapSumLemmas
pub mod LinkTextLemmas
mod UnlockedFileLemmas
mod VisitLemmas
mod AnsweredVisitLemmas
pub mod WaitingLemmas
mod MapWeightLemmas
pub mod WellFormedLemmas
pub mod SetattrNamesLemmas
mod SettlingLemmas
pub mod WithinLemmas
pub mod TakenNameLemmas
pub mod ShortReplyLemmas
mod StatusLemmas
pub mod LinksCountedLemmas
mod AnsweredHandleLemmas
pub mod MountSizes
