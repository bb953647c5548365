use Rattle.range_sets.proofs.CanonicalLemmas.{canonical_is, canonical_same}
use Rattle.range_sets.proofs.ParentLemmas.{parent_is}
use Rattle.range_sets.proofs.laws.canonical_law.Goals as goal

pub returns-clause-canonical : goal.returns-clause-canonical
returns-clause-canonical c = canonical_is

pub returns-clause-same : goal.returns-clause-same
returns-clause-same c = canonical_same

pub returns-clause-parent : goal.returns-clause-parent
returns-clause-parent c = parent_is
