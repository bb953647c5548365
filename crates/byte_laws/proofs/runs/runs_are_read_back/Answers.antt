use Rattle.byte_laws.proofs.Running.{pipe_read_back, serve_read_back}
use Rattle.byte_laws.proofs.runs.runs_are_read_back.Goals as goal

pub returns : goal.returns
returns c = record { pipe = pipe_read_back; serve = serve_read_back }
