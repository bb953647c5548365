-- A whole load.
use Rattle.std.proofs.Common.{◌≡◌, ◌+◌, ℕ, Bool, true, false, Option, List, [], ◌∷◌, refl, ap, sym, ◌∙◌, subst}
use Rattle.tailnet_desk.specs.Chains.{Chain}
use Rattle.tailnet_desk.specs.Seated.{Keeping, Point, Seated}
use Rattle.tailnet_desk.specs.Turns.{IsTurn}
use Rattle.tailnet_desk.specs.declared.reply.Loss.TheVariants.{NoMemory}
use Rattle.tailnet_desk.specs.declared.reply.Reply.{Reply}
use Rattle.tailnet_desk.specs.declared.reply.Reply.TheVariants.{Lost}
use Rattle.tailnet_desk.proofs.Histories.{history_of}
use Rattle.connections.specs.Exchanges.{turns_of}
use Rattle.exit_status.specs.Pieces.{Wrote}
use Rattle.exit_status.specs.declared.status.Status.TheVariants as status
use Rattle.load_run.specs.Beginning.{IsBegun}
use Rattle.load_run.specs.Loads.{IsLoad, IsLoadText, IsReported, load_front, opening_point, seeding}
use Rattle.load_run.specs.Report.{report}
use Rattle.load_run.specs.Running.{IsLoadReady, stand_of}
use Rattle.load_run.specs.Steps.{Runs, Stand, first_stand}
use Rattle.load_run.specs.Tasks.{request_count}
use Rattle.load_run.specs.declared.run.Run.{Run}
use Rattle.load_run.specs.declared.task.LoadPlan.{LoadPlan}
use Rattle.load_run.proofs.Stepping.{steps_chain}

-- a load that began and was run to its end
pub loaded : {K : Type 0} (plan : LoadPlan) (point : Seated K → Point) (before after : Run K) → IsBegun plan point before
    → Runs plan load_front (stand_of point 0 before) (stand_of point (request_count plan) after) → IsLoadReady plan (request_count plan) after
    → (point after.watched.desk).keeping.faults ≡ 0 → IsLoad plan (stand_of point (request_count plan) after)
loaded plan point before after begun runs ready sure =
    let seeded = point before.watched.desk in
    let final = stand_of point (request_count plan) after in
    let from_first : Runs plan load_front (first_stand plan 0 seeded) final = subst (λ (s : Stand). Runs plan load_front s final) begun.stand runs in
    let start = opening_point begun.keeping in
    record {
      keeping = begun.keeping;
      reply = begun.reply;
      memory = begun.memory;
      seeded = seeded;
      seeds = begun.seeds;
      runs = from_first;
      whole = refl;
      sum = ready.sum;
      history = history_of start (seeding begun.reply ∷ turns_of from_first.exchanges) final.point
          (seeded, begun.seeds, steps_chain plan load_front (first_stand plan 0 seeded) from_first.exchanges final from_first.steps);
      faultless = (begun.faultless, sure);
    }
