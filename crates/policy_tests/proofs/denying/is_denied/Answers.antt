use Rattle.policy_tests.proofs.SideLemmas.{denied_is}
use Rattle.policy_tests.proofs.denying.is_denied.Goals as goal

pub returns : goal.returns
returns c = record {
  value = denied_is c.args.x.now c.args.test.now c.args.entry.now c.port_of.result c.args.sources.now c.in_ok-dests.dests c.some_lets.result c.some_lets.ensures.value c.port_of.ensures.value c.requires.sources
      c.in_ok-dests.ensures.value;
}
