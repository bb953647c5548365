use Rattle.std.proofs.Common.{ap, ◌∙◌}
use Rattle.load_run.specs.Hearing.{hear_responses}
use Rattle.load_run.proofs.Hearing.{frames_heard}
use Rattle.load_run.proofs.heard.Heard.hear.Goals as goal

pub returns-in-Frames : goal.returns-in-Frames
returns-in-Frames c = record {
  heard = rw c.in-Frames.is (frames_heard c.args.self.now c.hear_responses.new.self _ (c.hear_responses.ensures.value ∙ ap (hear_responses c.args.self.now) c.as_slice.ensures.value));
}
