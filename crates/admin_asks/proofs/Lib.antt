pub mod DecisionLaws
mod Admissions
mod ExtraLaws
mod KeyLaws
mod NamedLaws
mod NodeLaws
mod RouteLaws
mod SweepLaws
mod UserLaws
