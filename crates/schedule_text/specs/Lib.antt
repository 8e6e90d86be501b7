pub mod DrillText
pub mod Words
pub mod Lines
pub mod Operands
pub mod Statements
pub mod Reading
pub mod Grammar
pub mod Laws
