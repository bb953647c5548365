pub mod BackLemmas
pub mod FirstLemmas
pub mod FlowLemmas
pub mod ListLemmas
pub mod MapLaws
pub mod MemberLemmas
pub mod ReachLaws
pub mod TextLemmas
