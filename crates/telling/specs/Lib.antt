pub mod States
pub mod Totals
pub mod Findings
pub mod Output
