-- Which ends a selector covers.
use Rattle.std.specs.Prelude.{◌==◌, ◌&&◌, Bool, true, false, List, length}
use Rattle.std.specs.Option.{option_map_or}
use Rattle.std.specs.Str.{bytes_eq}
use Rattle.net_addr.specs.Blocks.{holds}
use Rattle.policy_rows.specs.Internet.{is_internet}
use Rattle.policy_rows.specs.Named.{is_named}
use Rattle.policy_rows.specs.declared.group.Group.{Group}
use Rattle.policy_rows.specs.declared.selector.Selector.{Selector}
use Rattle.policy_rows.specs.declared.selector.Selector.TheVariants as sel
use Rattle.policy_sites.specs.declared.end.End.{End}
use Rattle.policy_sites.specs.declared.end.Holder.{Holder}

-- the selector names the holder, by login and tags
abbrev pub names_holder : List Group → Selector → Holder → Bool
names_holder groups selector holder = is_named groups selector holder.login holder.tags

-- the end is held, and the selector names its holder
abbrev pub is_held : List Group → Selector → End → Bool
is_held groups selector e = option_map_or (names_holder groups selector) e.holder false

-- `*` covers all ends. Addresses cover ends that have one of them, whoever holds it; the other selectors
-- cover ends that are held, with an address or without. `autogroup:self` covers no end alone.
abbrev pub covers : List Group → Selector → End → Bool
covers groups sel.All e = true
covers groups (sel.Net net) e = option_map_or (holds net) e.addr false
covers groups (sel.User login) e = is_held groups (sel.User login) e
covers groups (sel.Group name) e = is_held groups (sel.Group name) e
covers groups (sel.Tagged tag) e = is_held groups (sel.Tagged tag) e
covers groups sel.Member e = is_held groups sel.Member e
covers groups sel.AllTagged e = is_held groups sel.AllTagged e
covers groups sel.Internet e = option_map_or is_internet e.addr false
covers groups sel.OwnDevices e = false

-- two untagged holders of one login
abbrev pub is_own : Holder → Holder → Bool
is_own a b = length a.tags == 0 && length b.tags == 0 && bytes_eq a.login b.login

-- `autogroup:self`
abbrev pub is_own_devices : Selector → Bool
is_own_devices sel.All = false
is_own_devices (sel.Net net) = false
is_own_devices (sel.User login) = false
is_own_devices (sel.Group name) = false
is_own_devices (sel.Tagged tag) = false
is_own_devices sel.Member = false
is_own_devices sel.AllTagged = false
is_own_devices sel.Internet = false
is_own_devices sel.OwnDevices = true

-- both ends are held, untagged, and by one login
abbrev pub joins_own : End → End → Bool
joins_own s d = option_map_or (λ a. option_map_or (is_own a) d.holder false) s.holder false

-- the same of a destination, seen from a source: `autogroup:self` covers the source's own machines
abbrev pub dest_covers : List Group → Selector → End → End → Bool
dest_covers groups sel.All s d = covers groups sel.All d
dest_covers groups (sel.Net net) s d = covers groups (sel.Net net) d
dest_covers groups (sel.User login) s d = covers groups (sel.User login) d
dest_covers groups (sel.Group name) s d = covers groups (sel.Group name) d
dest_covers groups (sel.Tagged tag) s d = covers groups (sel.Tagged tag) d
dest_covers groups sel.Member s d = covers groups sel.Member d
dest_covers groups sel.AllTagged s d = covers groups sel.AllTagged d
dest_covers groups sel.Internet s d = covers groups sel.Internet d
dest_covers groups sel.OwnDevices s d = joins_own s d
