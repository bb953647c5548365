use Rattle.std.proofs.Common.{◌≡◌, ◌∙◌, Option, Some, ap, subst, sym}
use Rattle.std.specs.Option.{option_copied}
use Rattle.std.specs.Prelude.{IfOk}
use Rattle.net_rows.specs.Rows.{machine_of}
use Rattle.net_rows.specs.declared.machine.Machine.{Machine}
use Rattle.desk_state.specs.declared.session.Session.{Session}
use Rattle.machine_asks.specs.Drain as spec
use Rattle.machine_asks.specs.declared.draining.DrainDecision.{DrainDecision}
use Rattle.machine_asks.proofs.Drains.{live_row}
use Rattle.machine_asks.proofs.draining.drain_due.Goals as goal

pub drain_session-requires : goal.drain_session-requires
drain_session-requires c = record {
  live = live_row c.args.at.now c.args.machine.now c.in-Some.row.now (sym c.live_machine.ensures.value ∙ ap option_copied c.in-Some.is);
}

pub returns : goal.returns
returns c =
    let s = c.args.at.now in
    let m = c.in-Some.row.now in
    let live : spec.if_live s (machine_of s.rows.machines c.args.machine.now.0) ≡ Some m = sym c.live_machine.ensures.value ∙ ap option_copied c.in-Some.is in
    let same =
    ap (λ (o : Option Session). spec.drain_session s c.args.handle.now m o) c.session_of-session.ensures.value
    ∙ ap (λ (o : Option Machine). spec.drain_machine s c.args.handle.now o) (sym live) in
    record { value = subst (λ (o : Option DrainDecision). IfOk c.drain_session.result (λ (d : Option DrainDecision). d ≡ o)) same c.drain_session.ensures.value }
