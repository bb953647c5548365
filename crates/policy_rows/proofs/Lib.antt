pub mod EscapeLemmas
pub mod ProtoLemmas
