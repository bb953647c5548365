-- The ends that a test speaks of: what its subject and its destinations stand for.
use Rattle.std.specs.Prelude.{◌==◌, ◌&&◌, ◌++◌, ℕ, Bool, List, [], ◌∷◌, length, Some, None, filter, flat_map}
use Rattle.std.specs.List.{list_any}
use Rattle.std.specs.Str.{bytes_eq}
use Rattle.net_addr.specs.Bits.{Address}
use Rattle.policy_rows.specs.Named.{members_of}
use Rattle.policy_rows.specs.declared.group.Group.{Group}
use Rattle.policy_rows.specs.declared.selector.Selector.{Selector}
use Rattle.policy_rows.specs.declared.selector.Selector.TheVariants as sel
use Rattle.policy_sites.specs.Ends.{end_at, holder_of}
use Rattle.policy_sites.specs.declared.end.End.{End}
use Rattle.policy_sites.specs.declared.site.Site.{Site}

-- one of a machine's own addresses, with its holder
abbrev pub machine_end : Site → Address → End
machine_end m addr = record { addr = Some addr; holder = Some (holder_of m) }

-- both of its own addresses
abbrev pub site_ends : Site → List End
site_ends m = machine_end m m.v4 ∷ machine_end m m.v6 ∷ []

-- An end without an address, held by a machine that isn't there yet: with that login and these tags.
abbrev pub phantom : List ℕ → List (List ℕ) → End
phantom login tags = record { addr = None; holder = Some (record { user = 0; login = login; tags = tags }) }

-- a user's: untagged
abbrev pub user_phantom : List ℕ → End
user_phantom login = phantom login []

-- a tag's: with that tag alone. No selector looks at a tagged machine's login
abbrev pub tag_phantom : List ℕ → End
tag_phantom tag = phantom [] (tag ∷ [])

-- the machine is the user's own: untagged, and of that login
abbrev pub is_users : List ℕ → Site → Bool
is_users login m = length m.tags == 0 && bytes_eq login m.login

-- the machine has the tag
abbrev pub has_tag : List ℕ → Site → Bool
has_tag tag m = list_any (λ other. bytes_eq other tag) m.tags

-- a user's: those of the user's own machines, and the phantom
abbrev pub user_ends : List Site → List ℕ → List End
user_ends sites login = flat_map site_ends (filter (is_users login) sites) ++ user_phantom login ∷ []

-- a tag's: those of the machines with it, and the phantom
abbrev pub tag_ends : List Site → List ℕ → List End
tag_ends sites tag = flat_map site_ends (filter (has_tag tag) sites) ++ tag_phantom tag ∷ []

-- What a subject or a destination stands for. A group stands for what its members stand for, and an
-- address for itself, with its live holder. No test has the other selectors.
abbrev pub ends_of : List Group → List Site → Selector → List End
ends_of groups sites (sel.User login) = user_ends sites login
ends_of groups sites (sel.Group name) = flat_map (user_ends sites) (members_of groups name)
ends_of groups sites (sel.Tagged tag) = tag_ends sites tag
ends_of groups sites (sel.Net net) = end_at sites net.base ∷ []
ends_of groups sites sel.All = []
ends_of groups sites sel.Member = []
ends_of groups sites sel.AllTagged = []
ends_of groups sites sel.Internet = []
ends_of groups sites sel.OwnDevices = []
