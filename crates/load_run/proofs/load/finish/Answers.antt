use Rattle.std.proofs.Common.{refl}
use Rattle.load_run.proofs.Loading.{loaded}
use Rattle.load_run.proofs.load.finish.Goals as goal

pub returns-in-Ok-clause-text : goal.returns-in-Ok-clause-text
returns-in-Ok-clause-text c = record {
  final = _;
  load = loaded c.args.plan.now _ c.args.run.now c.serve_all.new.self c.requires.begun (rw c.requires.front at c.in_default.ensures.runs) c.in_default.ensures.ready refl;
  text_is = c.in-Ok.ensures.value;
}
