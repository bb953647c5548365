-- Selectors: what a policy names as a source or a destination. The form of a text is looked for in the
-- order of these cases.
use Rattle.std.specs.Prelude.{ℕ, ◌==◌, ◌&&◌, ◌||◌, Bool, true, false, not, List, codes, Option, Some, None, Result, Ok, Err, if◌then◌else◌}
use Rattle.std.specs.List.{list_any}
use Rattle.std.specs.Str.{bytes_eq}
use Rattle.tail_base.specs.Logins.{login_of}
use Rattle.tail_base.specs.Steps.{◌>>=◌, or_fault, refuse_unless}
use Rattle.net_addr.specs.Bits.{Block}
use Rattle.policy_rows.specs.declared.code.PolicyCode.TheVariants as code
use Rattle.policy_rows.specs.declared.fault.PolicyFault.{PolicyFault}
use Rattle.policy_rows.specs.declared.names.Names.{Names}
use Rattle.policy_rows.specs.declared.selector.Selector.{Selector}
use Rattle.policy_rows.specs.declared.selector.Selector.TheVariants as sel
use Rattle.policy_rows.specs.Faults.{fault_at}
use Rattle.policy_rows.specs.Names.{begins, group_named, host_named, is_name, owner_of_tag}
use Rattle.policy_rows.specs.Nets.{is_one_address, net_of_text}

-- `:`
abbrev pub is_colon : ℕ → Bool
is_colon b = b == 58

-- a slash stands in the text, as in each prefix
abbrev pub has_slash : List ℕ → Bool
has_slash text = list_any (λ b. b == 47) text

-- a group with an entry
abbrev pub group_at : Names → List ℕ → List ℕ → Result Selector PolicyFault
group_at names place text = do
  group ← or_fault (fault_at code.UnknownGroup place) (group_named names.groups text)
  Ok (sel.Group group.name)

-- a tag with an entry
abbrev pub tag_at : Names → List ℕ → List ℕ → Result Selector PolicyFault
tag_at names place text = do
  owner ← or_fault (fault_at code.UnknownTag place) (owner_of_tag names.tags text)
  Ok (sel.Tagged owner.tag)

-- one of the automatic groups that are supported
abbrev pub automatic_at : List ℕ → List ℕ → Result Selector PolicyFault
automatic_at place text =
    if bytes_eq text (codes "autogroup:member") then Ok sel.Member
    else if bytes_eq text (codes "autogroup:tagged") then Ok sel.AllTagged
    else if bytes_eq text (codes "autogroup:internet") then Ok sel.Internet
    else if bytes_eq text (codes "autogroup:self") then Ok sel.OwnDevices
    else Err (fault_at code.Unsupported place)

-- a host with an entry, which is read as its addresses
abbrev pub host_at : Names → List ℕ → List ℕ → Result Selector PolicyFault
host_at names place text = do
  _ ← refuse_unless (is_name text) (fault_at code.BadSelector place)
  host ← or_fault (fault_at code.UnknownHost place) (host_named names.hosts text)
  Ok (sel.Net host.prefix)

-- addresses, if the text names some, or else another selector
abbrev pub net_or : Option Block → Result Selector PolicyFault → Result Selector PolicyFault
net_or (Some net) other = Ok (sel.Net net)
net_or None other = other

-- a user, if the text is a login, or else another selector
abbrev pub user_or : Option (List ℕ) → Result Selector PolicyFault → Result Selector PolicyFault
user_or (Some login) other = Ok (sel.User login)
user_or None other = other

-- a login, addresses or a host
abbrev pub plain_at : Names → List ℕ → List ℕ → Result Selector PolicyFault
plain_at names place text = user_or (login_of text) (net_or (net_of_text text) (host_at names place text))

-- the selector that a text is
unfoldable pub selector_at : Names → List ℕ → List ℕ → Result Selector PolicyFault
selector_at names place text =
    if bytes_eq text (codes "*") then Ok sel.All
    else if begins text (codes "group:") then group_at names place text
    else if begins text (codes "tag:") then tag_at names place text
    else if begins text (codes "autogroup:") then automatic_at place text
    else if begins text (codes "ipset:") || begins text (codes "svc:") then Err (fault_at code.Unsupported place)
    else plain_at names place text

-- all but what is a destination alone
abbrev pub is_source : Selector → Bool
is_source sel.All = true
is_source (sel.Net net) = true
is_source (sel.User login) = true
is_source (sel.Group name) = true
is_source (sel.Tagged tag) = true
is_source sel.Member = true
is_source sel.AllTagged = true
is_source sel.Internet = false
is_source sel.OwnDevices = false

-- the source of a rule
unfoldable pub source_at : Names → List ℕ → List ℕ → Result Selector PolicyFault
source_at names place text = do
  selector ← selector_at names place text
  _ ← refuse_unless (is_source selector) (fault_at code.NotASource place)
  Ok selector

-- a login, a group or a tag
abbrev pub is_approver : Selector → Bool
is_approver sel.All = false
is_approver (sel.Net net) = false
is_approver (sel.User login) = true
is_approver (sel.Group name) = true
is_approver (sel.Tagged tag) = true
is_approver sel.Member = false
is_approver sel.AllTagged = false
is_approver sel.Internet = false
is_approver sel.OwnDevices = false

-- who approves routes
unfoldable pub approver_at : Names → List ℕ → List ℕ → Result Selector PolicyFault
approver_at names place text = do
  selector ← selector_at names place text
  _ ← refuse_unless (is_approver selector) (fault_at code.BadSelector place)
  Ok selector

-- a login, a group, a tag, or one address, which isn't written as a prefix; a host's entry may be
abbrev pub is_test_end : List ℕ → Selector → Bool
is_test_end text sel.All = false
is_test_end text (sel.Net net) = is_one_address net && not (has_slash text)
is_test_end text (sel.User login) = true
is_test_end text (sel.Group name) = true
is_test_end text (sel.Tagged tag) = true
is_test_end text sel.Member = false
is_test_end text sel.AllTagged = false
is_test_end text sel.Internet = false
is_test_end text sel.OwnDevices = false

-- what a test speaks of
unfoldable pub test_end_at : Names → List ℕ → List ℕ → Result Selector PolicyFault
test_end_at names place text = do
  selector ← selector_at names place text
  _ ← refuse_unless (is_test_end text selector) (fault_at code.BadTest place)
  Ok selector
