use Rattle.std.proofs.Common.{◌≡◌, drop, map}
use Rattle.policy_doc.specs.Keys.{is_one_of}
use Rattle.policy_doc.proofs.keys.is_one_of.Given as goal

-- none so far is the key
abbrev pub invariant-loop-name : goal.invariant-loop-name
invariant-loop-name l = is_one_of l.key (map (λ b. b.now) (drop l.name-index l.names)) ≡ is_one_of l.key (map (λ b. b.now) l.names)
