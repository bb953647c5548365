use Rattle.std.proofs.Common.{◌∙◌}
use Rattle.policy_tests.specs.Trials.{core_of}
use Rattle.policy_tests.proofs.AcceptLemmas.{accepted_is}
use Rattle.policy_tests.proofs.accepting.is_accepted.Goals as goal

pub returns : goal.returns
returns c =
    let dests = c.as_slice.ensures.value ∙ (c.in_ok-dests.ensures.value ∙ (λ i. core_of (c.groups.ensures.value i) (c.sites.ensures.value i) c.args.entry.now.to)) in
    record {
      value = accepted_is c.args.x.now.groups c.args.x.now.rules c.args.x.now.sites c.args.test.now c.args.entry.now c.port_of-port.result c.args.sources.now c.as_slice.result.now c.in_ok-passes.passes
          c.in_ok-passes.ensures.value c.port_of-port.ensures.value c.requires.sources dests;
    }
