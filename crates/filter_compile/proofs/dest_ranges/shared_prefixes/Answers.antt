use Rattle.std.proofs.Common.{◌∙◌, ◌&&◌}
use Rattle.range_sets.specs.Sets.{has}
use Rattle.range_sets.proofs.CanonicalLemmas.{canonical_same}
use Rattle.filter_compile.proofs.dest_ranges.shared_prefixes.Goals as goal

pub returns : goal.returns
returns c = record { value = c.in_ok-prefixes.ensures.value ∙ canonical_same (has c.in_ok-shared.shared) (λ addr. has c.args.covered.now addr && has c.args.served.now addr) (λ addr _. c.in_ok-shared.ensures.held addr) }
