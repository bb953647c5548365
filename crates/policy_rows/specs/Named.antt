-- Whom a selector names: a machine by the login of its user and by its tags. A tagged machine is no
-- longer its user's own.
use Rattle.std.specs.Prelude.{ℕ, ◌==◌, ◌&&◌, Bool, true, false, not, List, [], length, Option, Some, None}
use Rattle.std.specs.List.{list_any}
use Rattle.std.specs.Str.{bytes_eq}
use Rattle.policy_rows.specs.declared.group.Group.{Group}
use Rattle.policy_rows.specs.declared.selector.Selector.{Selector}
use Rattle.policy_rows.specs.declared.selector.Selector.TheVariants as sel
use Rattle.policy_rows.specs.Names.{group_named}

-- the members of a group that is there
abbrev pub members_or_none : Option Group → List (List ℕ)
members_or_none None = []
members_or_none (Some group) = group.members

-- the members of the group of that name; a name without an entry has none
abbrev pub members_of : List Group → List ℕ → List (List ℕ)
members_of groups name = members_or_none (group_named groups name)

-- `*` names everybody, with a machine or without. Addresses and `autogroup:internet` name nobody,
-- whoever has the addresses; `autogroup:self` names nobody alone, since it takes a source, too.
abbrev pub is_named : List Group → Selector → List ℕ → List (List ℕ) → Bool
is_named groups sel.All login tags = true
is_named groups (sel.Net net) login tags = false
is_named groups (sel.User user) login tags = length tags == 0 && bytes_eq user login
is_named groups (sel.Group name) login tags = length tags == 0 && list_any (λ user. bytes_eq user login) (members_of groups name)
is_named groups (sel.Tagged tag) login tags = list_any (λ other. bytes_eq other tag) tags
is_named groups sel.Member login tags = length tags == 0
is_named groups sel.AllTagged login tags = not (length tags == 0)
is_named groups sel.Internet login tags = false
is_named groups sel.OwnDevices login tags = false
