use Rattle.std.proofs.Common.{◌∙◌, List, ap, refl}
use Rattle.std.specs.Prelude.{flat_map}
use Rattle.policy_eval.specs.Expansion.{Expansion}
use Rattle.policy_sites.specs.declared.site.Site.{Site}
use Rattle.peer_view.specs.Seen.{node_with}
use Rattle.filter_compile.proofs.StepLemmas.{flat_end, flat_more}
use Rattle.fresh_maps.specs.Fresh.{node_seen}
use Rattle.fresh_maps.proofs.PeerLemmas.{gathered_visible}
use Rattle.fresh_maps.proofs.fresh.visible_of.Goals as goal

pub loop-site-preserved : goal.loop-site-preserved
loop-site-preserved c =
    flat_more (λ (s : Site). node_seen c.args.world.now c.args.viewer.now (node_with c.args.world.now s.id)) c.sites-sites.result.now c.loop-site.site-index c.loop-site.visible _ c.site-item.result _
    c.loop-site-test.true c.site-item.is c.loop-site.invariant c.in_ok-add_visible.ensures.ok

pub returns : goal.returns
returns c =
    let w = c.args.world.now in
    let each = λ (s : Site). node_seen w c.args.viewer.now (node_with w s.id) in
    let sites = c.sites-sites.ensures.value ∙ ap (λ (x : Expansion). x.sites) c.expanded-expanded.ensures.value in
    let done = flat_end each c.sites-sites.result.now c.sites-sites.result.now c.loop-site.site-index c.loop-site.visible _ refl c.loop-site-test.false c.loop-site.invariant in
    record { value = done ∙ (ap (λ (ss : List Site). flat_map each ss) sites ∙ gathered_visible w c.args.viewer.now c.users-users.ensures.sound) }
