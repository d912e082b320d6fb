pub mod Amounts
pub mod PotsWords
pub mod RuleNames
pub mod Sinks
pub mod Taking
pub mod WordTexts
