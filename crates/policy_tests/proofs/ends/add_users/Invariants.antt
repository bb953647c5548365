use Rattle.std.proofs.Common.{◌≡◌, ◌++◌, [], drop}
use Rattle.std.specs.Prelude.{flat_map}
use Rattle.policy_tests.specs.TestEnds.{user_ends}
use Rattle.policy_tests.proofs.ends.add_users.Given as goal

-- with the phantoms of the users to come these are all
abbrev pub invariant-loop-login : goal.invariant-loop-login
invariant-loop-login l =
    l.out ++ flat_map (user_ends []) (drop l.login-index l.logins)
    ≡ l.fn.out ++ flat_map (user_ends []) l.logins
