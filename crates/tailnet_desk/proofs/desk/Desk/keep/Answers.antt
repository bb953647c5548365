use Rattle.std.proofs.Common.{◌∙◌, List, Some, None, ap, rules}
use Rattle.net_rows.specs.Rows.{after}
use Rattle.net_rows.specs.declared.rows.Rows.{Rows}
use Rattle.row_keeper.specs.Calls.{one_more}
use Rattle.desk_state.specs.State.{all_ended, all_offline, forgotten, without_all}
use Rattle.desk_state.specs.declared.presence.MachinePresence.{MachinePresence}
use Rattle.desk_state.specs.declared.session.Attachment.{Attachment}
use Rattle.desk_state.specs.declared.session.Session.{Session}
use Rattle.tailnet_desk.specs.Seated.{Seated}
use Rattle.tailnet_desk.proofs.KeepLemmas.{settled_is}
use Rattle.tailnet_desk.proofs.SessionSteps.{left_sessions}
use Rattle.tailnet_desk.proofs.desk.Desk.keep.Goals as goal

pub returns-clause-kept : goal.returns-clause-kept
returns-clause-kept g c =
    let desk = c.self.inside in
    let change = c.in-Some.change in
    let ended = c.args.ended.now in
    let offline = c.args.offline.now in
    let new = c.end_presence_and_sessions-2.new in
    let presence_is = c.apply_change.ensures.presence ∙ ap (λ (ps : List MachinePresence). forgotten (λ (p : MachinePresence). p.id) ps change.gone) c.make_room-room.ensures.presence in
    rw c.in-Some.is (
      settled_is desk.settings desk.tables.rows c.apply_change.new.tables.rows desk.policy c.put_in_force-2.new.held desk.presence.0 new.presence.0
          desk.sessions.rows.0 new.sessions.rows.0 desk.sessions.attached.0 new.sessions.attached.0 desk.sessions.next new.sessions.next desk.time
          (Some change) c.args.policy ended offline c.args.self.now.state (ap (λ (d : Seated _). d.state) c.self.view_is)
          (c.apply_change.ensures.rows ∙ ap (λ (r : Rows). after r change) c.make_room-room.ensures.rows)
          c.put_in_force-2.ensures.value
          (c.end_presence_and_sessions-2.ensures.presence ∙ ap (λ (ps : List MachinePresence). all_offline desk.time (all_ended desk.time ps ended) offline) presence_is)
          (c.end_presence_and_sessions-2.ensures.sessions ∙ ap (λ (xs : List Session). without_all (λ (x : Session). x.id) (without_all (λ (x : Session). x.id) xs ended) offline) c.apply_change.ensures.sessions)
          (c.end_presence_and_sessions-2.ensures.attached ∙ ap (λ (xs : List Attachment). without_all (λ (x : Attachment). x.id) (without_all (λ (x : Attachment). x.id) xs ended) offline) c.apply_change.ensures.attached)
          (c.end_presence_and_sessions-2.ensures.next ∙ c.apply_change.ensures.next),
      c.commit.ensures.called ∙ ap (λ (d : Seated _). one_more (g.K.Keeper.calls d.keeper)) c.self.view_is,
    )

pub invariant_of-self-in_default : goal.invariant_of-self-in_default
invariant_of-self-in_default g c =
    let desk = c.self.inside in
    record {
      kept = search rules;
      in_force = search rules;
      sessions = left_sessions desk.settings.base_domain desk.sessions.next c.end_presence_and_sessions.new.sessions.next desk.sessions.rows.0 c.end_presence_and_sessions.new.sessions.rows.0
          None c.args.ended.now c.args.offline.now c.end_presence_and_sessions.ensures.sessions c.end_presence_and_sessions.ensures.next c.self.invariant.sessions;
    }

pub invariant_of-self-2 : goal.invariant_of-self-2
invariant_of-self-2 g c =
    let desk = c.self.inside in
    let new = c.end_presence_and_sessions-2.new.sessions in
    let rest = λ (xs : List Session). without_all (λ (x : Session). x.id) (without_all (λ (x : Session). x.id) xs c.args.ended.now) c.args.offline.now in
    record {
      kept = search rules;
      in_force = search rules;
      sessions = left_sessions desk.settings.base_domain desk.sessions.next new.next desk.sessions.rows.0 new.rows.0
          (Some c.in-Some.change) c.args.ended.now c.args.offline.now (c.end_presence_and_sessions-2.ensures.sessions ∙ ap rest c.apply_change.ensures.sessions)
          (c.end_presence_and_sessions-2.ensures.next ∙ c.apply_change.ensures.next) c.self.invariant.sessions;
    }
