use Rattle.std.proofs.Common.{◌∙◌, subst, sym}
use Rattle.std.specs.Option.{option_copied}
use Rattle.policy_eval.specs.Expansion.{Expansion}
use Rattle.policy_sites.specs.Sites.{AreServedApart}
use Rattle.peer_view.proofs.RouterLaws.{seen_exit_free}
use Rattle.peer_view.proofs.WorldLaws.{expansion_is}
use Rattle.peer_view.proofs.routers.are_exits_shown.Goals as goal

pub is_granted-requires-clause-free : goal.is_granted-requires-clause-free
is_granted-requires-clause-free c =
    let w = c.world.inside in
    let made = expansion_is w.settings.now (option_copied w.policy) w.tables.now.rows w.live.now w.online w.expanded.now c.args.world.now c.world.invariant c.world.view_is in
    let apart = subst (λ (x : Expansion). AreServedApart x.sites) made c.sites-sites.ensures.apart in
    seen_exit_free c.args.world.now c.args.viewer.now c.args.machines.now c.requires.seen apart (sym c.has_exit.ensures.value ∙ c.if-has_exit.true)
