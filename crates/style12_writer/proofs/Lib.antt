pub mod Decimals
pub mod Fields
pub mod Printed
pub mod RankSlices
pub mod Spacing
