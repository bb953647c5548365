use Rattle.std.proofs.Common.{◌≡◌, false, take}
use Rattle.std.specs.Prelude.{slice_index_or}
use Rattle.std.specs.List.{list_any}
use Rattle.std.specs.Option.{option_copied}
use Rattle.policy_sites.specs.ByRule.{sends_into, target_of}
use Rattle.policy_sites.specs.declared.site.Site.{Site}
use Rattle.policy_eval.proofs.expanded.Expanded.sends_into.Given as goal

-- by none of the rules before
abbrev pub invariant-loop-at : goal.invariant-loop-at
invariant-loop-at l =
    (s : Site) → list_any (sends_into l.self.groups (target_of (option_copied l.target)) (slice_index_or l.self.sites l.site s)) (take l.at l.self.rules) ≡ false
