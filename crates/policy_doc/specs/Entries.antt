-- The entries of groups, hosts, tags and routes. The rule of an entry's key comes first.
use Rattle.std.specs.Prelude.{ℕ, ◌&&◌, ◌||◌, Bool, not, List, codes, drop, Option, Some, None, is_some, Result, Ok, if◌then◌else◌}
use Rattle.std.specs.List.{filter_map, list_any}
use Rattle.std.specs.Result.{result_ok}
use Rattle.serde_json.specs.Data.{Data}
use Rattle.tail_base.specs.Logins.{login_of}
use Rattle.tail_base.specs.Tags.{tag_of}
use Rattle.net_addr.specs.AddrTexts.{addr_of_text}
use Rattle.net_addr.specs.Bits.{Block}
use Rattle.net_addr.specs.Blocks.{is_within}
use Rattle.net_addr.specs.PrefixTexts.{prefix_of_text}
use Rattle.policy_rows.specs.declared.approver.Approver.{Approver}
use Rattle.tail_base.specs.Steps.{◌>>=◌, or_fault, refuse_unless}
use Rattle.policy_rows.specs.declared.code.PolicyCode.TheVariants as code
use Rattle.policy_rows.specs.declared.fault.PolicyFault.{PolicyFault}
use Rattle.policy_rows.specs.declared.group.Group.{Group}
use Rattle.policy_rows.specs.declared.host.Host.{Host}
use Rattle.policy_rows.specs.declared.names.Names.{Names}
use Rattle.policy_rows.specs.declared.selector.Selector.{Selector}
use Rattle.policy_rows.specs.declared.tag_owner.TagOwner.{TagOwner}
use Rattle.policy_rows.specs.Faults.{fault_at}
use Rattle.policy_rows.specs.Names.{begins, group_named, is_name}
use Rattle.policy_rows.specs.Nets.{host_net}
use Rattle.policy_rows.specs.Selectors.{approver_at}
use Rattle.policy_doc.specs.declared.limits.TheConstants.{LIST_LIMIT}
use Rattle.policy_doc.specs.declared.owner.Owner.{Owner}
use Rattle.policy_doc.specs.declared.owner.Owner.TheVariants as owner
use Rattle.policy_doc.specs.Walks.{list_of, text_at}

-- a member of a group: a login
unfoldable pub member_at : Names → List ℕ → Data → Result (List ℕ) PolicyFault
member_at names place d = do
  text ← text_at place d
  or_fault (fault_at code.BadGroup place) (login_of text)

-- `group:` and a name
abbrev pub is_group_name : List ℕ → Bool
is_group_name key = begins key (codes "group:") && is_name (drop 6 key)

-- a group
unfoldable pub group_entry : Names → List Group → List ℕ → List ℕ → Data → Result Group PolicyFault
group_entry names before key place d = do
  _ ← refuse_unless (is_group_name key) (fault_at code.BadGroup place)
  members ← list_of LIST_LIMIT (member_at names) place d
  Ok (record { name = key; members = members })

-- a name that is no address
abbrev pub is_host_name : List ℕ → Bool
is_host_name key = is_name key && not (is_some (addr_of_text key))

-- a host: an address or a prefix
unfoldable pub host_entry : Names → List Host → List ℕ → List ℕ → Data → Result Host PolicyFault
host_entry names before key place d = do
  _ ← refuse_unless (is_host_name key) (fault_at code.BadHost place)
  text ← text_at place d
  net ← or_fault (fault_at code.BadHost place) (host_net text)
  Ok (record { name = key; prefix = net })

-- tags and automatic groups own no tags
abbrev pub is_unsupported_owner : List ℕ → Bool
is_unsupported_owner text = begins text (codes "tag:") || begins text (codes "autogroup:")

-- a group with an entry
abbrev pub group_owner : Names → List ℕ → List ℕ → Result Owner PolicyFault
group_owner names place text = do
  group ← or_fault (fault_at code.UnknownGroup place) (group_named names.groups text)
  Ok (owner.Group group.name)

-- a login
abbrev pub user_owner : List ℕ → List ℕ → Result Owner PolicyFault
user_owner place text = do
  login ← or_fault (fault_at code.BadTag place) (login_of text)
  Ok (owner.User login)

-- an owner of a tag: a group or a login
unfoldable pub owner_at : Names → List ℕ → Data → Result Owner PolicyFault
owner_at names place d = do
  text ← text_at place d
  _ ← refuse_unless (not (is_unsupported_owner text)) (fault_at code.Unsupported place)
  (if begins text (codes "group:") then group_owner names place text else user_owner place text)

-- the user that an owner is
abbrev pub owner_user : Owner → Option (List ℕ)
owner_user (owner.User login) = Some login
owner_user (owner.Group name) = None

-- the group that an owner is
abbrev pub owner_group : Owner → Option (List ℕ)
owner_group (owner.User login) = None
owner_group (owner.Group name) = Some name

-- a tag and its owners
abbrev pub tag_owner : List ℕ → List Owner → TagOwner
tag_owner tag owners = record { tag = tag; users = filter_map owner_user owners; groups = filter_map owner_group owners }

-- a tag
unfoldable pub tag_entry : Names → List TagOwner → List ℕ → List ℕ → Data → Result TagOwner PolicyFault
tag_entry names before key place d = do
  tag ← or_fault (fault_at code.BadTag place) (tag_of key)
  owners ← list_of LIST_LIMIT (owner_at names) place d
  Ok (tag_owner tag owners)

-- an approver of routes
unfoldable pub approver_text : Names → List ℕ → Data → Result Selector PolicyFault
approver_text names place d = do
  text ← text_at place d
  approver_at names place text

-- the prefixes have the same addresses
abbrev pub is_same_route : Block → Block → Bool
is_same_route a b = is_within a b && is_within b a

-- the route was walked before
abbrev pub is_route_before : List Approver → Block → Bool
is_route_before before route = list_any (λ a. is_same_route a.route route) before

-- the approvers of a route
unfoldable pub route_entry : Names → List Approver → List ℕ → List ℕ → Data → Result Approver PolicyFault
route_entry names before key place d = do
  route ← or_fault (fault_at code.BadRoute place) (result_ok (prefix_of_text key))
  _ ← refuse_unless (not (is_route_before before route)) (fault_at code.BadRoute place)
  by ← list_of LIST_LIMIT (approver_text names) place d
  Ok (record { route = route; by = by })
