pub mod Looking
pub mod PlanFits
pub mod Revoking
pub mod AllTaken
pub mod Candidates
pub mod Verdict
