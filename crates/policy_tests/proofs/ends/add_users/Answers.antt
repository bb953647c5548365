use Rattle.std.proofs.Common.{[]}
use Rattle.policy_tests.specs.TestEnds.{user_ends}
use Rattle.policy_tests.proofs.LoopLemmas.{standing_more}
use Rattle.policy_tests.proofs.ends.add_users.Goals as goal

pub loop-login-preserved : goal.loop-login-preserved
loop-login-preserved c =
    standing_more (user_ends []) c.args.logins.now c.loop-login.login-index c.loop-login.out _ c.login-item.result _ c.loop-login-test.true c.login-item.is c.loop-login.invariant
    c.in_ok-add_user.ensures.ok
