use Rattle.std.proofs.Common.{◌≡◌, ◌∙◌, ap}
use Rattle.net_rows.specs.declared.rows.Rows.{Rows}
use Rattle.desk_state.specs.State.{State}
use Rattle.admin_asks.proofs.SweepLaws.{few_machines, few_pending}
use Rattle.admin_asks.proofs.sweeping.sweep.Goals as goal

pub sweep_decision-requires-clause-machines : goal.sweep_decision-requires-clause-machines
sweep_decision-requires-clause-machines c =
    let rows : c.at.inside.tables.now.rows ≡ c.args.at.now.rows = ap (λ (s : State). s.rows) c.at.view_is in
    let all : c.machines.result.now ≡ c.args.at.now.rows.machines = c.machines.ensures.value ∙ ap (λ (t : Rows). t.machines) rows in
    rw (c.in_ok-machines.ensures.value, all) (few_machines c.args.at.now (rw rows at c.machines.ensures.sound))

pub sweep_decision-requires-clause-pending : goal.sweep_decision-requires-clause-pending
sweep_decision-requires-clause-pending c =
    let rows : c.at.inside.tables.now.rows ≡ c.args.at.now.rows = ap (λ (s : State). s.rows) c.at.view_is in
    let all : c.pending.result.now ≡ c.args.at.now.rows.pending = c.pending.ensures.value ∙ ap (λ (t : Rows). t.pending) rows in
    rw (c.in_ok-pending.ensures.value, all) (few_pending c.args.at.now (rw rows at c.pending.ensures.sound))
