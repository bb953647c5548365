use Rattle.std.proofs.Common.{◌≡◌, ◌∷◌, ◌++◌, drop}
use Rattle.std.specs.Prelude.{map}
use Rattle.tailcfg.specs.declared.node_row.NodeRow.{NodeRow}
use Rattle.fresh_maps.proofs.profile.owners_among.Given as goal

-- with those of the peers to come these are all
abbrev pub invariant-loop-peer : goal.invariant-loop-peer
invariant-loop-peer l = l.ids.items ++ map (λ (p : NodeRow). p.user) (drop l.peer-index l.peers) ≡ l.node.user ∷ map (λ (p : NodeRow). p.user) l.peers
