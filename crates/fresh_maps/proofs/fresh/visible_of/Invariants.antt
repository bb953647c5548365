use Rattle.std.proofs.Common.{◌≡◌, ◌++◌, drop}
use Rattle.std.specs.Prelude.{flat_map}
use Rattle.policy_sites.specs.declared.site.Site.{Site}
use Rattle.peer_view.specs.Seen.{node_with}
use Rattle.fresh_maps.specs.Fresh.{node_seen}
use Rattle.fresh_maps.proofs.fresh.visible_of.Given as goal

-- with those that are seen of the machines to come these are all
abbrev pub invariant-loop-site : goal.invariant-loop-site
invariant-loop-site l =
    l.visible ++ flat_map (λ (s : Site). node_seen l.world l.viewer (node_with l.world s.id)) (drop l.site-index l.sites)
    ≡ flat_map (λ (s : Site). node_seen l.world l.viewer (node_with l.world s.id)) l.sites
