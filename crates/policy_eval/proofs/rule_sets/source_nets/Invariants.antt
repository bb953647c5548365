use Rattle.std.proofs.Common.{◌≡◌, ◌||◌, drop}
use Rattle.std.specs.List.{list_any}
use Rattle.net_addr.specs.Bits.{Address}
use Rattle.range_sets.specs.Sets.{some_holds}
use Rattle.policy_eval.specs.Covering.{place_nets}
use Rattle.policy_eval.proofs.rule_sets.source_nets.Given as goal

abbrev pub invariant-loop-place : goal.invariant-loop-place
invariant-loop-place l =
    (addr : Address) → (some_holds l.nets addr || list_any (λ place. some_holds (place_nets l.covers place) addr) (drop l.place-index l.places))
    ≡ list_any (λ place. some_holds (place_nets l.covers place) addr) l.places
