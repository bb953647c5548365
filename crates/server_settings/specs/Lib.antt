pub mod ServerRules
