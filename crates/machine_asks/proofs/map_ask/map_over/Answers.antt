use Rattle.std.proofs.Common.{refl, sym, subst, ap, ◌∙◌}
use Rattle.std.specs.Prelude.{IsSome, Option}
use Rattle.policy_rows.specs.declared.policy.Policy.{Policy}
use Rattle.peer_view.specs.Seen.{Node, seen_of}
use Rattle.machine_asks.proofs.Lives.{live_in, map_in_world}
use Rattle.machine_asks.proofs.map_ask.map_over.Goals as goal

pub fresh_map-requires : goal.fresh_map-requires
fresh_map-requires c =
    let a = c.at.inside in
    let world = c.new-world.ensures.value ∙ ap (λ (p : Option Policy). seen_of a.settings.now p a.tables.now.rows c.args.live.now c.args.online.now) c.policy-policy.ensures.value in
    let found = live_in c.args.at.now a.settings.now a.tables.now.rows a.policy.now a.presence.now.0 a.sessions.now.rows.0 a.sessions.now.attached.0 a.sessions.now.next a.time c.args.live.now c.args.online.now c.new-world.result c.args.row.now
    c.at.view_is c.requires.live_ids c.requires.online_ids world c.keep_rules.ensures.tables c.requires.live in
    record { live = subst (λ (o : Option Node). IsSome o) (sym found) refl }

pub returns : goal.returns
returns c =
    let a = c.at.inside in
    let world = c.new-world.ensures.value ∙ ap (λ (p : Option Policy). seen_of a.settings.now p a.tables.now.rows c.args.live.now c.args.online.now) c.policy-policy.ensures.value in
    record {
      value = map_in_world c.args.at.now a.settings.now a.tables.now.rows a.policy.now a.presence.now.0 a.sessions.now.rows.0 a.sessions.now.attached.0 a.sessions.now.next a.time c.args.live.now c.args.online.now c.new-world.result c.args.row.now c.in_ok-view.view
          c.at.view_is c.requires.live_ids c.requires.online_ids world c.keep_rules.ensures.tables c.requires.live c.in_ok-view.ensures.value;
    }
