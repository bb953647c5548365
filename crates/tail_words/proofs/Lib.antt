pub mod FaultLemmas
pub mod FieldLemmas
pub mod ListLemmas
