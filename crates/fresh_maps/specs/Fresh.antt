-- The map of a machine, computed afresh (`tailcfg.MapResponse`).
use Rattle.std.specs.Prelude.{List, [], ◌∷◌, Option, Some, None, map, if◌then◌else◌}
use Rattle.tailcfg.specs.declared.dns.Dns.{Dns}
use Rattle.tailcfg.specs.declared.node_row.NodeRow.{NodeRow}
use Rattle.filter_compile.specs.Filters.{filter_of}
use Rattle.peer_view.specs.Seen.{Node, Seen, sees, sites_seen, visible}
use Rattle.peer_view.specs.Shown.{own_row, shown}
use Rattle.fresh_maps.specs.Profiles.{owners_of}
use Rattle.fresh_maps.specs.declared.view.View.{View}

-- the rows of the machines that it sees, by id, as it is shown them
abbrev pub peers_of : Seen → Node → List NodeRow
peers_of w m = map (shown w m (visible w m)) (visible w m)

-- what DNS is told: by the settings, and the extra records
abbrev pub dns_of : Seen → Dns
dns_of w = record { settings = w.settings.dns; extras = w.extras }

-- The map of a live machine: its own row, those that it sees, the filter that it applies, DNS, the tailnet's name, and
-- whose machines these are.
abbrev pub fresh : Seen → Node → View
fresh w m = record {
  node = own_row w m;
  peers = peers_of w m;
  filter = filter_of w.policy (sites_seen w) m.site;
  dns = dns_of w;
  domain = w.settings.base_domain;
  profiles = owners_of w.users (own_row w m ∷ peers_of w m);
}

-- one of the live machines, if there is one and the viewer sees it
abbrev pub node_seen : Seen → Node → Option Node → List Node
node_seen w viewer None = []
node_seen w viewer (Some peer) = if sees w viewer peer then peer ∷ [] else []
