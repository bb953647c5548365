use Rattle.std.proofs.Common.{◌∙◌, ℕ, ap}
use Rattle.std.specs.Option.{option_copied}
use Rattle.peer_view.specs.Seen.{node_with}
use Rattle.peer_view.proofs.WorldLaws.{site_looked_up, site_missing, world_ascends}
use Rattle.peer_view.proofs.world.World.machine.Goals as goal

pub site_place-place-requires : goal.site_place-place-requires
site_place-place-requires c =
    let w = c.self.inside in
    record { ascending = world_ascends w.expanded.now (option_copied w.policy) w.tables.now.rows w.live.now c.sites-sites.result.now c.self.invariant c.sites-sites.ensures.value }

pub site_with-requires : goal.site_with-requires
site_with-requires c =
    let w = c.self.inside in
    record { ascending = world_ascends w.expanded.now (option_copied w.policy) w.tables.now.rows w.live.now c.sites-sites.result.now c.self.invariant c.sites-sites.ensures.value }

pub machine_at-requires : goal.machine_at-requires
machine_at-requires c =
    let w = c.self.inside in
    let at = site_looked_up w.settings.now (option_copied w.policy) w.tables.now.rows w.live.now w.online w.expanded.now c.args.self.now c.self.invariant c.self.view_is
    c.sites-sites.result.now c.sites-sites.ensures.value c.args.id (option_copied c.site_with.result) c.site_with.ensures.value c.in-Some.site.now (ap option_copied c.in-Some.is) in
    record { among = at.0 }

pub returns-in-None : goal.returns-in-None
returns-in-None c =
    let w = c.self.inside in
    record {
      value = site_missing w.settings.now (option_copied w.policy) w.tables.now.rows w.live.now w.online w.expanded.now c.args.self.now c.self.invariant c.self.view_is
          c.sites-sites.result.now c.sites-sites.ensures.value c.args.id (option_copied c.site_with.result) c.site_with.ensures.value (ap option_copied c.in-None.is);
    }

pub returns-in-Some : goal.returns-in-Some
returns-in-Some c =
    let w = c.self.inside in
    let at = site_looked_up w.settings.now (option_copied w.policy) w.tables.now.rows w.live.now w.online w.expanded.now c.args.self.now c.self.invariant c.self.view_is
    c.sites-sites.result.now c.sites-sites.ensures.value c.args.id (option_copied c.site_with.result) c.site_with.ensures.value c.in-Some.site.now (ap option_copied c.in-Some.is) in
    record { value = c.machine_at.ensures.value ∙ ap (λ (k : ℕ). node_with c.args.self.now k) at.1 }
