use Rattle.std.proofs.Common.{◌≡◌, ◌++◌, List, ap, sym, subst, ◌∙◌}
use Rattle.std.specs.Prelude.{OnOk, Some}
use Rattle.peer_view.specs.Seen.{Node, node_with}
use Rattle.fresh_maps.specs.Fresh.{node_seen}
use Rattle.fresh_maps.proofs.PeerLemmas.{node_inside, seen_node}
use Rattle.fresh_maps.proofs.fresh.add_visible.Goals as goal

pub sees_machine-requires-clause-peer : goal.sees_machine-requires-clause-peer
sees_machine-requires-clause-peer c = node_inside c.args.world.now c.args.site.now.id c.in-Some.peer (sym c.machine_at.ensures.value ∙ c.in-Some.is)

pub returns-then-sees_machine : goal.returns-then-sees_machine
returns-then-sees_machine c =
    let w = c.args.world.now in
    let v = c.args.viewer.now in
    let found : node_with w c.args.site.now.id ≡ Some c.in-Some.peer = sym c.machine_at.ensures.value ∙ c.in-Some.is in
    let whole = seen_node w v c.in-Some.peer (sym c.sees_machine.ensures.value ∙ c.if-sees_machine.true) ∙ ap (node_seen w v) (sym found) in
    record { ok = subst (λ (nodes : List Node). OnOk c.push.result (c.push.new.self ≡ c.args.visible.now ++ nodes)) whole c.push.ensures.ok }
