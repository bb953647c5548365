use Rattle.std.proofs.Common.{◌≡◌, ◌+◌, arith, rules}
use Rattle.tailnet_desk.specs.Seated.{point_of}
use Rattle.load_run.specs.Running.{stand_of}
use Rattle.load_run.proofs.Stepping.{runs_more, runs_none}
use Rattle.load_run.proofs.run.Run.serve_all.Goals as goal

pub loop-number-preserved : goal.loop-number-preserved
loop-number-preserved g c =
    let at = stand_of (point_of g.K.Keeper.told g.K.Keeper.faults g.K.Keeper.calls) in
    let number = c.loop-number.number in
    let next = c.in_default.ensures.next in
    record {
      most = omega (arith, c.loop-number-test.true, c.request_count-count.ensures.value);
      ready = c.in_default.ensures.ready;
      rest = λ t runs. c.loop-number.invariant.rest t
          (runs_more c.args.plan.now c.args.front.now (at number c.loop-number.self) next.exchange (at (number + 1) c.serve_next.new.self) t next.step runs);
    }

pub returns-in-Err-clause-early : goal.returns-in-Err-clause-early
returns-in-Err-clause-early g c = λ early.
    let at = stand_of (point_of g.K.Keeper.told g.K.Keeper.faults g.K.Keeper.calls) c.loop-number.number c.loop-number.self in
    record {
      at = at;
      runs = c.loop-number.invariant.rest at (runs_none c.args.plan.now c.args.front.now at);
      next = c.in-Err.ensures.early early;
    }
