-- What the filter of a map admits.
use Rattle.std.specs.Prelude.{◌≡◌, ◌<◌, ◌&&◌, ℕ, List}
use Rattle.net_addr.specs.Bits.{Address, family_size}
use Rattle.tailcfg.specs.declared.filter.FilterRule.{FilterRule}
use Rattle.policy_sites.specs.Ends.{end_at}
use Rattle.policy_sites.specs.Grants.{grants}
use Rattle.policy_sites.specs.Sites.{serves}
use Rattle.filter_compile.specs.Admits.{admits}
use Rattle.peer_view.specs.Seen.{Node, Seen, sites_seen}

-- The filter admits exactly the flows to what the machine serves that the policy grants between the two ends.
abbrev pub MeetsPolicy : Seen → Node → List FilterRule → Type 0
MeetsPolicy w m filter = (source dest : Address) (proto port : ℕ)
    → source.bits < family_size source.v6 → dest.bits < family_size dest.v6
    → admits filter source dest proto port
    ≡ (serves m.site dest && grants w.policy (end_at (sites_seen w) source) (end_at (sites_seen w) dest) proto port)
