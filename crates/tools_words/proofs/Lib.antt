pub mod Behind
pub mod DecimalTexts
pub mod Stopped
pub mod Patterns
pub mod Rounds
