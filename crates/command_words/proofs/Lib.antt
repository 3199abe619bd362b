pub mod ByFront
pub mod CommandOfLine
pub mod Decimals
pub mod Digits
pub mod Parts
pub mod TermParts
