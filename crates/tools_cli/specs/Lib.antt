pub mod Answers
pub mod ShowAnswers
pub mod UsageAnswers
pub mod Headline
