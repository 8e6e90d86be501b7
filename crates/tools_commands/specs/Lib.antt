pub mod Statuses
pub mod Lines
pub mod Telling
pub mod SourceAnswers
pub mod DumpAnswers
pub mod RestoreAnswers
pub mod Ends
