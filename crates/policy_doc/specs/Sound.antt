-- What holds of each policy that is read, fact by fact.
use Rattle.std.specs.Prelude.{◌≡◌, ◌≤◌, ◌==◌, ◌&&◌, ◌||◌, Bool, true, false, not, List, [], ◌∷◌, length, nat_le, nat_lt, Option, Some, None, is_some}
use Rattle.std.specs.List.{list_all}
use Rattle.port_sets.specs.declared.range.PortRange.{PortRange}
use Rattle.policy_rows.specs.declared.group.Group.{Group}
use Rattle.policy_rows.specs.declared.policy.Policy.{Policy}
use Rattle.policy_rows.specs.declared.rule.Rule.{Rule}
use Rattle.policy_rows.specs.declared.selector.Selector.{Selector}
use Rattle.policy_rows.specs.declared.selector.Selector.TheVariants as sel
use Rattle.policy_rows.specs.declared.tag_owner.TagOwner.{TagOwner}
use Rattle.policy_rows.specs.Dests.{is_one_port, needs_star}
use Rattle.policy_rows.specs.Names.{group_named, owner_of_tag}
use Rattle.policy_rows.specs.Nets.{is_one_address}
use Rattle.policy_rows.specs.Selectors.{is_approver, is_source}
use Rattle.policy_doc.specs.declared.limits.TheConstants.{ENTRY_LIMIT, LIST_LIMIT, RULE_LIMIT}

-- the rules that are written; none where there are neither `acls` nor `grants`
abbrev pub written_rules : Option (List Rule) → List Rule
written_rules None = []
written_rules (Some rules) = rules

-- a group or a tag that the selector names has an entry
abbrev pub has_entry : List Group → List TagOwner → Selector → Bool
has_entry groups tags sel.All = true
has_entry groups tags (sel.Net net) = true
has_entry groups tags (sel.User login) = true
has_entry groups tags (sel.Group name) = is_some (group_named groups name)
has_entry groups tags (sel.Tagged tag) = is_some (owner_of_tag tags tag)
has_entry groups tags sel.Member = true
has_entry groups tags sel.AllTagged = true
has_entry groups tags sel.Internet = true
has_entry groups tags sel.OwnDevices = true

-- a user, a group, a tag or one address, as a test speaks of
abbrev pub is_subject : Selector → Bool
is_subject sel.All = false
is_subject (sel.Net net) = is_one_address net
is_subject (sel.User login) = true
is_subject (sel.Group name) = true
is_subject (sel.Tagged tag) = true
is_subject sel.Member = false
is_subject sel.AllTagged = false
is_subject sel.Internet = false
is_subject sel.OwnDevices = false

-- all ports
abbrev pub is_every_port : List PortRange → Bool
is_every_port [] = false
is_every_port (range ∷ []) = range.first == 0 && range.last == 65535
is_every_port (range ∷ more ∷ ranges) = false

pub record IsSound (p : Policy) : Type 0 where
  -- groups and tags that selectors name have entries
  pub sources_known : list_all (λ r. list_all (has_entry p.groups p.tags) r.sources) (written_rules p.rules) ≡ true
  pub dests_known : list_all (λ r. list_all (λ e. has_entry p.groups p.tags e.to) r.dests) (written_rules p.rules) ≡ true
  pub approvers_known : list_all (λ a. list_all (has_entry p.groups p.tags) a.by) p.route_approvers ≡ true
  pub exits_known : list_all (has_entry p.groups p.tags) p.exit_approvers ≡ true
  pub subjects_known : list_all (λ t. has_entry p.groups p.tags t.subject) p.tests ≡ true
  pub accepts_known : list_all (λ t. list_all (λ e. has_entry p.groups p.tags e.to) t.accept) p.tests ≡ true
  pub denies_known : list_all (λ t. list_all (λ e. has_entry p.groups p.tags e.to) t.deny) p.tests ≡ true
  -- sources are neither the internet nor own devices
  pub sources_fit : list_all (λ r. list_all is_source r.sources) (written_rules p.rules) ≡ true
  -- a rule whose protocol has no ports has all ports
  pub ports_fit : list_all (λ r. not (needs_star r.protos) || list_all (λ e. is_every_port e.ports) r.dests) (written_rules p.rules) ≡ true
  -- each destination of a rule has a port
  pub ports_some : list_all (λ r. list_all (λ e. nat_lt 0 (length e.ports)) r.dests) (written_rules p.rules) ≡ true
  -- approvers are users, groups and tags
  pub approvers_fit : list_all (λ a. list_all is_approver a.by) p.route_approvers ≡ true
  pub exits_fit : list_all is_approver p.exit_approvers ≡ true
  -- a test's ends are users, groups, tags or one address, each with one port
  pub subjects_fit : list_all (λ t. is_subject t.subject) p.tests ≡ true
  pub accepts_fit : list_all (λ t. list_all (λ e. is_subject e.to && is_one_port e.ports) t.accept) p.tests ≡ true
  pub denies_fit : list_all (λ t. list_all (λ e. is_subject e.to && is_one_port e.ports) t.deny) p.tests ≡ true
  -- nothing is longer than its limit
  pub groups_end : length p.groups ≤ ENTRY_LIMIT
  pub hosts_end : length p.hosts ≤ RULE_LIMIT
  pub tags_end : length p.tags ≤ ENTRY_LIMIT
  pub rules_end : length (written_rules p.rules) ≤ RULE_LIMIT
  pub routes_end : length p.route_approvers ≤ ENTRY_LIMIT
  pub exits_end : length p.exit_approvers ≤ LIST_LIMIT
  pub tests_end : length p.tests ≤ ENTRY_LIMIT
  pub members_end : list_all (λ g. nat_le (length g.members) LIST_LIMIT) p.groups ≡ true
  pub sources_end : list_all (λ r. nat_le (length r.sources) LIST_LIMIT) (written_rules p.rules) ≡ true
  pub dests_end : list_all (λ r. nat_le (length r.dests) LIST_LIMIT) (written_rules p.rules) ≡ true
  pub approvers_end : list_all (λ a. nat_le (length a.by) LIST_LIMIT) p.route_approvers ≡ true
  pub accepts_end : list_all (λ t. nat_le (length t.accept) LIST_LIMIT) p.tests ≡ true
  pub denies_end : list_all (λ t. nat_le (length t.deny) LIST_LIMIT) p.tests ≡ true
