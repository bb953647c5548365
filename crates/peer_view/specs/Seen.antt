-- What maps depend on, and who sees whom.
use Rattle.std.specs.Prelude.{◌≡◌, ◌<◌, ◌==◌, ◌&&◌, ◌||◌, ℕ, Bool, false, not, is_some, List, Option, Contains, filter, map}
use Rattle.std.specs.Option.{option_map_or}
use Rattle.tailcfg.specs.declared.dns.DnsExtra.{DnsExtra}
use Rattle.settings.specs.declared.fields.SettingsFields.{SettingsFields}
use Rattle.policy_rows.specs.declared.policy.Policy.{Policy}
use Rattle.net_rows.specs.Shelf.{HasRow, IsAscending, row_at}
use Rattle.net_rows.specs.declared.machine.Machine.{Machine}
use Rattle.net_rows.specs.declared.rows.Rows.{Rows}
use Rattle.net_rows.specs.declared.user.User.{User}
use Rattle.policy_sites.specs.ByRule.{IsSoundSite}
use Rattle.policy_eval.specs.Expansion.{Expansion}
use Rattle.policy_sites.specs.Grants.{groups_of, rules_of}
use Rattle.policy_sites.specs.Sites.{is_among, site_of}
use Rattle.policy_sites.specs.declared.site.Site.{Site}
use Rattle.peer_view.specs.Reaches.{reaches}
use Rattle.peer_view.specs.declared.node.TheConstants.{TAGGED_OWNER}

-- A live machine: its row, what policies see of it, and whether it is online.
pub record Node : Type 0 where
  pub row : Machine
  pub site : Site
  pub online : Bool

-- All that maps depend on; the live machines go by id.
pub record Seen : Type 0 where
  pub settings : SettingsFields
  pub policy : Option Policy
  pub users : List User
  pub extras : List DnsExtra
  pub nodes : List Node

-- the node of a machine's row under a policy, by the ids of those that are online
abbrev pub live_node : Option Policy → List User → List ℕ → Machine → Node
live_node policy users online m = record { row = m; site = site_of policy users m; online = is_among online m }

-- what is seen of settings, a policy and tables, by the ids of the live machines and of those online
abbrev pub seen_of : SettingsFields → Option Policy → Rows → List ℕ → List ℕ → Seen
seen_of settings policy rows live online = record {
  settings = settings;
  policy = policy;
  users = rows.users;
  extras = rows.extras;
  nodes = map (live_node policy rows.users online) (filter (is_among live) rows.machines);
}

-- the live machines as policies see them
abbrev pub sites_seen : Seen → List Site
sites_seen w = map (λ n. n.site) w.nodes

-- the policy over them
abbrev pub expansion_seen : Seen → Expansion
expansion_seen w = record { groups = groups_of w.policy; rules = rules_of w.policy; sites = sites_seen w }

-- the live machine of an id
abbrev pub node_with : Seen → ℕ → Option Node
node_with w id = row_at (λ n. n.row.id) w.nodes id

-- one live machine reaches another
abbrev pub node_reaches : Seen → Node → Node → Bool
node_reaches w a b = reaches w.policy (sites_seen w) a.site b.site

-- a live machine has its id
abbrev pub is_node : Seen → Node → Bool
is_node w m = is_some (node_with w m.row.id)

-- A machine sees another one if both are live and one reaches the other.
abbrev pub sees : Seen → Node → Node → Bool
sees w m p =
    is_node w m && is_node w p && not (m.row.id == p.row.id) && (node_reaches w m p || node_reaches w p m)

-- the machines that a machine sees, by id
abbrev pub visible : Seen → Node → List Node
visible w m = filter (sees w m) w.nodes

-- the same of ids: a test of their live machines, which fails where one isn't live
abbrev pub of_ids : (Node → Node → Bool) → Seen → ℕ → ℕ → Bool
of_ids test w a b = option_map_or (λ m. option_map_or (test m) (node_with w b) false) (node_with w a) false

-- What is seen of tables that keep their rules: nodes and users go by id, each node is at its own site, whose addresses
-- are numbers of their families, and its user is there. No user has the id that tagged machines are shown to belong to.
pub record IsSoundSeen (w : Seen) : Type 0 where
  pub nodes : IsAscending (λ n. n.row.id) w.nodes
  pub sites : (n : Node) → Contains w.nodes n → n.site.id ≡ n.row.id
  pub addresses : (n : Node) → Contains w.nodes n → IsSoundSite n.site
  pub users : IsAscending (λ u. u.id) w.users
  pub ids : (u : User) → Contains w.users u → u.id < TAGGED_OWNER
  pub owners : (n : Node) → Contains w.nodes n → HasRow (λ u. u.id) w.users n.row.user
