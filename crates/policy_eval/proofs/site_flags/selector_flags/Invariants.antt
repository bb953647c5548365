use Rattle.std.proofs.Common.{◌≡◌, take}
use Rattle.std.specs.Prelude.{map}
use Rattle.policy_sites.specs.ByRule.{covers_served, covers_site}
use Rattle.policy_eval.proofs.site_flags.selector_flags.Given as goal

abbrev pub invariant-loop-cover : goal.invariant-loop-cover
invariant-loop-cover l = record {
  own : l.own ≡ map (λ cover. covers_site l.groups l.site cover.selector) (take l.cover-index l.covers);
  served : l.served ≡ map (λ cover. covers_served l.groups l.site cover.selector) (take l.cover-index l.covers);
}
