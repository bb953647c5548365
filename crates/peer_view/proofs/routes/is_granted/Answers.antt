use Rattle.std.proofs.Common.{◌∙◌, List, refl, subst, sym}
use Rattle.std.specs.Option.{option_copied}
use Rattle.std.specs.Prelude.{Contains}
use Rattle.net_rows.specs.Shelf.{BelongsAt, StandsAt}
use Rattle.policy_sites.specs.ByRule.{target_of}
use Rattle.policy_eval.specs.Expansion.{Expansion}
use Rattle.policy_sites.specs.declared.site.Site.{Site}
use Rattle.peer_view.specs.Seen.{Node, sites_seen}
use Rattle.peer_view.specs.Shown.{granted_into}
use Rattle.peer_view.proofs.GrantLaws.{site_missing_never, world_granted}
use Rattle.peer_view.proofs.ListLemmas.{map_member}
use Rattle.peer_view.proofs.WorldLaws.{any_site, expansion_is, world_ascends}
use Rattle.peer_view.proofs.routes.is_granted.Goals as goal

pub place_near-requires : goal.place_near-requires
place_near-requires c =
    let w = c.world.inside in
    record { ascending = world_ascends w.expanded.now (option_copied w.policy) w.tables.now.rows w.live.now c.sites.result.now c.world.invariant c.sites.ensures.value }

pub returns : goal.returns
returns c =
    let w = c.world.inside in
    let target = target_of (option_copied c.args.target) in
    let v : Node = record { row = c.viewer.inside.row.now; site = c.viewer.inside.site.now; online = c.viewer.inside.online } in
    let here : Contains c.args.world.now.nodes v = subst (λ (n : Node). Contains c.args.world.now.nodes n) (sym c.viewer.view_is) c.requires.viewer in
    let stands : StandsAt (λ (s : Site). s.id) w.expanded.now.sites v.site.id c.in-Ok.place =
    subst (λ (ss : List Site). StandsAt (λ (s : Site). s.id) ss v.site.id c.in-Ok.place) c.sites.ensures.value c.in-Ok.ensures.there in
    let ascend = world_ascends w.expanded.now (option_copied w.policy) w.tables.now.rows w.live.now w.expanded.now.sites c.world.invariant refl in
    record {
      value = c.sends_into.ensures.value any_site
          ∙ (world_granted w.settings.now (option_copied w.policy) w.tables.now.rows w.live.now w.online w.expanded.now c.args.world.now c.world.invariant c.world.view_is v target c.in-Ok.place here
          c.requires.free c.rules-rules.ensures.sound c.sites.ensures.distinct ascend stands
          ∙ (λ i. granted_into c.args.world.now (c.viewer.view_is i) target));
    }

pub unreachable-requires : goal.unreachable-requires
unreachable-requires c =
    let w = c.world.inside in
    let v : Node = record { row = c.viewer.inside.row.now; site = c.viewer.inside.site.now; online = c.viewer.inside.online } in
    let here : Contains c.args.world.now.nodes v = subst (λ (n : Node). Contains c.args.world.now.nodes n) (sym c.viewer.view_is) c.requires.viewer in
    let made = expansion_is w.settings.now (option_copied w.policy) w.tables.now.rows w.live.now w.online w.expanded.now c.args.world.now c.world.invariant c.world.view_is in
    let inside : Contains (sites_seen c.args.world.now) v.site = map_member (λ (z : Node). z.site) c.args.world.now.nodes v here in
    let there : Contains w.expanded.now.sites v.site = subst (λ (x : Expansion). Contains x.sites v.site) (sym made) inside in
    let absent : BelongsAt (λ (s : Site). s.id) w.expanded.now.sites v.site.id c.in-Err.field-0 =
    subst (λ (ss : List Site). BelongsAt (λ (s : Site). s.id) ss v.site.id c.in-Err.field-0) c.sites.ensures.value c.in-Err.ensures.absent in
    let ascend = world_ascends w.expanded.now (option_copied w.policy) w.tables.now.rows w.live.now w.expanded.now.sites c.world.invariant refl in
    site_missing_never w.expanded.now.sites v.site c.in-Err.field-0 ascend there absent
