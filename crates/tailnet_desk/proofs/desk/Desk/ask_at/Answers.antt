use Rattle.std.proofs.Common.{◌≡◌, Ok, None, ap, subst}
use Rattle.net_rows.specs.Damage.{damage}
use Rattle.settings.specs.Settings.{AreSettings}
use Rattle.desk_state.specs.State.{State}
use Rattle.tailnet_desk.specs.Seated.{Seated}
use Rattle.tailnet_desk.specs.Step.{decision}
use Rattle.tailnet_desk.proofs.CrashLemmas.{carried_safe}
use Rattle.tailnet_desk.proofs.Decisions.{decision_in_force, decision_sound}
use Rattle.tailnet_desk.proofs.TurnLemmas.{at_later, carried_at, each_holds, each_of, state_with}
use Rattle.tailnet_desk.proofs.desk.Desk.ask_at.Goals as goal

pub carry-requires : goal.carry-requires
carry-requires g c =
    let desk = c.self.inside in
    let now = c.or_later-self-inside.result in
    let s = state_with desk.settings desk.tables.rows desk.policy desk.presence.0 desk.sessions.rows.0 desk.sessions.attached.0 desk.sessions.next now in
    let at_is = c.snapshot-at.ensures.value in
    let is = subst (λ (x : State). decision x c.args.ask.now c.args.words ≡ Ok c.in-Ok.decision) at_is c.in-Ok.ensures.value in
    let settings_hold = subst (λ (x : State). AreSettings x.settings) at_is c.keep_rules.ensures.settings in
    let tables_hold = subst (λ (x : State). damage x.rows ≡ None) at_is c.keep_rules.ensures.tables in
    record {
      sound = each_holds s.rows c.in-Ok.decision.change
          (each_of s.rows _ c.in-Ok.decision is (decision_sound s c.args.ask.now c.args.words settings_hold tables_hold c.requires.short));
      policy = decision_in_force s c.args.ask.now c.args.words c.in-Ok.decision settings_hold tables_hold c.requires.short is
          c.self.invariant.in_force;
    }

pub returns-in-Ok : goal.returns-in-Ok
returns-in-Ok g c =
    let desk = c.self.inside in
    let now = c.or_later-self-inside.result in
    let s = state_with desk.settings desk.tables.rows desk.policy desk.presence.0 desk.sessions.rows.0 desk.sessions.attached.0 desk.sessions.next now in
    let at_is = c.snapshot-at.ensures.value in
    let is = subst (λ (x : State). decision x c.args.ask.now c.args.words ≡ Ok c.in-Ok.decision) at_is c.in-Ok.ensures.value in
    let settings_hold = subst (λ (x : State). AreSettings x.settings) at_is c.keep_rules.ensures.settings in
    let tables_hold = subst (λ (x : State). damage x.rows ≡ None) at_is c.keep_rules.ensures.tables in
    let later = at_later desk.settings desk.tables.rows desk.policy desk.presence.0 desk.sessions.rows.0 desk.sessions.attached.0 desk.sessions.next desk.time now c.args.moment c.args.self.now.state
    c.or_later-self-inside.ensures.value (ap (λ (d : Seated _). d.state) c.self.view_is) in
    record {
      turn = carried_at g.K.Keeper.told g.K.Keeper.faults g.K.Keeper.calls c.args.self.now c.carry.new.self s desk.keeper
          c.args.ask.now c.args.moment c.args.words c.in-Ok.decision c.carry.result later (ap (λ (d : Seated _). d.keeper) c.self.view_is) c.requires.short
          is (decision_sound s c.args.ask.now c.args.words settings_hold tables_hold c.requires.short)
          c.carry.ensures.carried c.carry.ensures.later c.carry.ensures.told c.carry.ensures.before;
      safe = carried_safe g.K.Keeper.told g.K.Keeper.is_clean g.K.Keeper.may_leave c.args.self.now c.carry.new.self s desk.keeper
          c.args.ask.now c.args.moment c.args.words c.in-Ok.decision c.carry.result _ _ later (ap (λ (d : Seated _). d.keeper) c.self.view_is)
          is c.carry.ensures.carried c.carry.ensures.crash c.carry.ensures.durable;
    }
