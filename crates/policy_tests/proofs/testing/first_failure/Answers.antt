use Rattle.std.proofs.Common.{◌≡◌, ◌∙◌, sym}
use Rattle.std.specs.Prelude.{Some}
use Rattle.policy_sites.specs.Sites.{sites_of}
use Rattle.policy_tests.specs.Tests.{first_failure}
use Rattle.policy_tests.proofs.FailureLemmas.{accepts_last, first_is}
use Rattle.policy_tests.proofs.testing.first_failure.Goals as goal

pub returns : goal.returns
returns c =
    let value : c.in_ok-failure.failure ≡ first_failure c.args.policy.now (sites_of (Some c.args.policy.now) c.args.tables.now.rows c.args.live.now) =
    first_is c.args.policy.now c.args.tables.now.rows c.args.live.now c.in_ok-x.x c.as_slice.result.now c.in_ok-failure.failure c.in_ok-x.ensures.value c.as_slice.ensures.value
    c.in_ok-failure.ensures.value in
    record {
      value = value;
      lasting = λ none. accepts_last c.args.policy.now (sites_of (Some c.args.policy.now) c.args.tables.now.rows c.args.live.now) (sym value ∙ none);
    }
