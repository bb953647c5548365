mod LineLemmas
mod NumberLemmas
mod RuleLemmas
