pub mod JoinedLemmas
pub mod MemberLemmas
pub mod NumeralLemmas
pub mod Plain
pub mod ResponseMembers
pub mod RouteLemmas
pub mod TokenLemmas
