pub mod FilterLemmas
pub mod IsolationLemmas
pub mod OrderLemmas
pub mod OwnerLemmas
pub mod PeerLemmas
pub mod ShownLemmas
pub mod TextLemmas
