use Rattle.std.proofs.Common.{◌≡◌, ◌≤◌, ◌-◌, ℕ}
use Rattle.tailnet_desk.specs.Seated.{point_of}
use Rattle.load_run.specs.Running.{IsLoadReady, stand_of}
use Rattle.load_run.specs.Steps.{Runs, Stand}
use Rattle.load_run.specs.Tasks.{request_count}
use Rattle.load_run.proofs.run.Run.serve_all.Given as goal

-- what is served from here on completes what is served in all
abbrev pub invariant-loop-number : goal.invariant-loop-number
invariant-loop-number g l =
    let at = stand_of (point_of g.K.Keeper.told g.K.Keeper.faults g.K.Keeper.calls) in
    record {
      most : l.number ≤ request_count l.plan;
      ready : IsLoadReady l.plan l.number l.self;
      rest : (t : Stand) → Runs l.plan l.front (at l.number l.self) t → Runs l.plan l.front (at 0 l.fn.self) t;
    }

abbrev pub decreases-loop-number : goal.decreases-loop-number
decreases-loop-number g l = request_count l.plan - l.number
