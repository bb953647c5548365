use Rattle.std.proofs.Common.{◌≡◌, drop}
use Rattle.policy_tests.specs.Trials.{all_pass}
use Rattle.policy_tests.proofs.accepting.all_pass.Given as goal

-- the sources to come pass where all do
abbrev pub invariant-loop-source : goal.invariant-loop-source
invariant-loop-source l =
    all_pass l.x.groups l.x.rules l.fn.proto l.port (drop l.source-index l.sources) l.dests ≡ all_pass l.x.groups l.x.rules l.fn.proto l.port l.sources l.dests
