use Rattle.std.proofs.Common.{◌≡◌, ◌++◌, drop}
use Rattle.policy_doc.specs.Grants.{dests_to}
use Rattle.policy_doc.proofs.grants.dests_to.Given as goal

-- the destinations so far, and those of what is left
abbrev pub invariant-loop-to : goal.invariant-loop-to
invariant-loop-to l = l.dests ++ dests_to l.ports (drop l.to-index l.tos) ≡ dests_to l.ports l.tos
