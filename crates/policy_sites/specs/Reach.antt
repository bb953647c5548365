-- Whether some flow into a set of addresses is granted.
use Rattle.std.specs.Prelude.{◌^◌, ◌&&◌, Bool, List, Option, Contains}
use Rattle.std.specs.List.{list_any}
use Rattle.tail_base.specs.Searches.{some_below}
use Rattle.net_addr.specs.Bits.{Address}
use Rattle.net_addr.specs.Searches.{some_address}
use Rattle.port_sets.specs.Protocols.{IsProtos}
use Rattle.port_sets.specs.Ranges.{IsPorts}
use Rattle.policy_rows.specs.declared.dest.Dest.{Dest}
use Rattle.policy_rows.specs.declared.group.Group.{Group}
use Rattle.policy_rows.specs.declared.policy.Policy.{Policy}
use Rattle.policy_rows.specs.declared.rule.Rule.{Rule}
use Rattle.policy_sites.specs.Covers.{dest_covers}
use Rattle.policy_sites.specs.Ends.{end_at}
use Rattle.policy_sites.specs.Grants.{grants, some_source}
use Rattle.policy_sites.specs.declared.end.End.{End}
use Rattle.policy_sites.specs.declared.site.Site.{Site}

-- by some protocol and port, some address of the set
abbrev pub reaches_into : Option Policy → List Site → (Address → Bool) → End → Bool
reaches_into policy sites target s =
    some_below (2 ^ 8) (λ proto. some_below (2 ^ 16) (λ port.
    some_address (λ addr. target addr && grants policy s (end_at sites addr) proto port)))

-- the destination covers some address of the set
abbrev pub entry_reaches : List Group → List Site → (Address → Bool) → End → Dest → Bool
entry_reaches groups sites target s entry =
    some_address (λ addr. target addr && dest_covers groups entry.to s (end_at sites addr))

-- a source of the rule covers the end, and a destination some address of the set
abbrev pub rule_reaches : List Group → List Site → (Address → Bool) → End → Rule → Bool
rule_reaches groups sites target s r =
    some_source groups r s && list_any (entry_reaches groups sites target s) r.dests

-- what is true of each rule by its types: its protocols are those that there are, and each of its
-- destinations has a port
pub record IsSoundRule (r : Rule) : Type 0 where
  pub protos : IsProtos r.protos
  pub ports : (entry : Dest) → Contains r.dests entry → IsPorts entry.ports

abbrev pub AreSoundRules : List Rule → Type 0
AreSoundRules rules = (r : Rule) → Contains rules r → IsSoundRule r
