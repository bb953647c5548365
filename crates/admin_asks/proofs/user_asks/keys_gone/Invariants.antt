use Rattle.std.proofs.Common.{◌≡◌, ◌++◌, drop}
use Rattle.admin_asks.specs.Users.{keys_gone}
use Rattle.admin_asks.proofs.user_asks.keys_gone.Given as goal

abbrev pub invariant-loop-key : goal.invariant-loop-key
invariant-loop-key l = l.gone ++ keys_gone (drop l.key-index l.keys) l.user ≡ keys_gone l.keys l.user
