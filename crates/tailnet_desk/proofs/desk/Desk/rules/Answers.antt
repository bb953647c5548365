use Rattle.std.proofs.Common.{◌≡◌, None, sym, subst}
use Rattle.net_rows.specs.Damage.{damage}
use Rattle.net_rows.proofs.Sounds.{sound_of}
use Rattle.tailnet_desk.specs.Seated.{Seated}
use Rattle.tailnet_desk.specs.Sound.{IsSoundState}
use Rattle.tailnet_desk.proofs.TurnLemmas.{state_with}
use Rattle.tailnet_desk.proofs.desk.Desk.rules.Goals as goal

pub returns : goal.returns
returns g c =
    let desk = c.self.inside in
    let s = state_with desk.settings desk.tables.rows desk.policy desk.presence.0 desk.sessions.rows.0 desk.sessions.attached.0 desk.sessions.next desk.time in
    let sound : IsSoundState s = record {
      settings = c.fields-fields.ensures.rules;
      rows = sound_of desk.tables.rows (subst (λ (d : Seated _). damage d.state.rows ≡ None) (sym c.self.view_is) c.tables-rows.ensures.sound);
      in_force = c.self.invariant.in_force;
      sessions = c.self.invariant.sessions;
    } in
    record { sound = subst (λ (d : Seated _). IsSoundState d.state) c.self.view_is sound }
