pub mod SeedLemmas
pub mod RunLemmas
pub mod OpenedLemmas
pub mod PipeLemmas
pub mod CompleteLemmas
pub mod RunLawLemmas
