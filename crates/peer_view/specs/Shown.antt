-- The rows of machines as viewers are shown them.
use Rattle.std.specs.Prelude.{◌≡◌, ◌==◌, ◌&&◌, ◌++◌, Bool, true, false, List, Option, Some, None, filter}
use Rattle.std.specs.List.{find, list_any}
use Rattle.net_addr.specs.Bits.{Address, Block}
use Rattle.net_addr.specs.Blocks.{holds}
use Rattle.policy_rows.specs.Internet.{is_internet}
use Rattle.tailcfg.specs.declared.node_row.NodeRow.{NodeRow}
use Rattle.policy_sites.specs.Exits.{has_route}
use Rattle.policy_sites.specs.Serving.{exits_if}
use Rattle.policy_sites.specs.ByRule.{site_addresses}
use Rattle.policy_sites.specs.Ends.{end_at, free_end}
use Rattle.policy_sites.specs.Reach.{reaches_into}
use Rattle.policy_sites.specs.declared.site.Site.{Site}
use Rattle.peer_view.specs.Nodes.{node_of, own_addresses}
use Rattle.peer_view.specs.Seen.{Node, Seen, sites_seen}

-- some flow from an address of the viewer into the set is granted
abbrev pub granted_into : Seen → Node → (Address → Bool) → Bool
granted_into w viewer target =
    list_any (λ x. reaches_into w.policy (sites_seen w) target (end_at (sites_seen w) x)) (site_addresses viewer.site)

-- no machine has an address of the set
abbrev pub IsUnheld : List Site → (Address → Bool) → Type 0
IsUnheld sites target = (addr : Address) → target addr ≡ true → end_at sites addr ≡ free_end addr

-- the route is one of the machine's approved ones
abbrev pub offers : Block → Node → Bool
offers r q = has_route q.site.approved r

-- the first, or else the second
abbrev pub or_else : Option Node → Option Node → Option Node
or_else None other = other
or_else (Some q) other = Some q

-- Through which of these machines, which go by id, a route goes: the first that is online and offers it, or else the
-- first that offers it.
abbrev pub choice : List Node → Block → Option Node
choice nodes r = or_else (find (λ q. offers r q && q.online) nodes) (find (offers r) nodes)

-- the machine is the chosen one
abbrev pub is_choice : Option Node → Node → Bool
is_choice None p = false
is_choice (Some q) p = q.row.id == p.row.id

-- of a machine's approved routes those into which the viewer is granted a flow and for which, among the machines that
-- the viewer sees, it is the choice
abbrev pub is_shown : Seen → Node → List Node → Node → Block → Bool
is_shown w viewer visible p r = granted_into w viewer (holds r) && is_choice (choice visible r) p

abbrev pub shown_routes : Seen → Node → List Node → Node → List Block
shown_routes w viewer visible p = filter (is_shown w viewer visible p) p.site.approved

-- both exit routes of an exit node, if the viewer is granted a flow into the internet
abbrev pub shown_exits : Seen → Node → Node → List Block
shown_exits w viewer p = exits_if (p.site.exit && granted_into w viewer is_internet)

-- a live machine's row as the machine itself is shown it: packets to its own addresses and to all that it serves beside
-- them go through it
abbrev pub own_row : Seen → Node → NodeRow
own_row w m = node_of w.settings.base_domain (own_addresses m.row ++ m.site.approved ++ exits_if m.site.exit) m.online m.row

-- A peer's row as a viewer is shown it, which sees these machines.
abbrev pub shown : Seen → Node → List Node → Node → NodeRow
shown w viewer visible p =
    node_of w.settings.base_domain (own_addresses p.row ++ shown_routes w viewer visible p ++ shown_exits w viewer p) p.online p.row
