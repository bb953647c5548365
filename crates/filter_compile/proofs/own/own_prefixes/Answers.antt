use Rattle.std.proofs.Common.{◌∙◌, ◌&&◌, ap}
use Rattle.range_sets.specs.Sets.{has}
use Rattle.range_sets.proofs.CanonicalLemmas.{canonical_same}
use Rattle.policy_sites.specs.Sites.{serves, site_has}
use Rattle.filter_compile.proofs.own.own_prefixes.Goals as goal

pub returns : goal.returns
returns c =
    let m = c.args.machine.now in
    record {
      value = c.in_ok-prefixes.ensures.value
          ∙ canonical_same (λ addr. has c.in_ok-own.own addr && has c.args.served.now addr) (λ addr. site_has addr m && serves m addr)
          (λ addr _. ap (λ b. b && has c.args.served.now addr) (c.in_ok-own.ensures.held addr) ∙ ap (λ b. site_has addr m && b) (c.requires.served addr));
    }
