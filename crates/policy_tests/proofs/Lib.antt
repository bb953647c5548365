pub mod AcceptLemmas
pub mod CoreLemmas
pub mod DenyLemmas
pub mod FailureLemmas
pub mod LoopLemmas
pub mod PairLemmas
pub mod PhantomLemmas
pub mod SideLemmas
