pub mod Naming
pub mod Regular
pub mod Wholeness
pub mod Stable
pub mod Freshness
pub mod RuleSets
