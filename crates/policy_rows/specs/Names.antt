-- The names that a policy gives, and where they are looked up.
use Rattle.std.specs.Prelude.{ℕ, Bool, List, [], length, Option, nat_le, nat_eq, ◌&&◌, ◌||◌, ◌==◌}
use Rattle.std.specs.List.{find, list_all, starts_with}
use Rattle.std.specs.Str.{bytes_eq}
use Rattle.policy_rows.specs.declared.group.Group.{Group}
use Rattle.policy_rows.specs.declared.host.Host.{Host}
use Rattle.policy_rows.specs.declared.names.Names.{Names}
use Rattle.policy_rows.specs.declared.tag_owner.TagOwner.{TagOwner}

-- the text begins so
abbrev pub begins : List ℕ → List ℕ → Bool
begins text head = starts_with nat_eq text head

-- A to Z, a to z, 0 to 9, `-`, `_`, `.`
abbrev pub is_name_byte : ℕ → Bool
is_name_byte b = (nat_le 97 b && nat_le b 122) || (nat_le 65 b && nat_le b 90) || (nat_le 48 b && nat_le b 57) || b == 45 || b == 95 || b == 46

-- 1 to 63 letters, digits, `-`, `_` and `.`
abbrev pub is_name : List ℕ → Bool
is_name text = nat_le 1 (length text) && nat_le (length text) 63 && list_all is_name_byte text

-- nothing has an entry
abbrev pub no_names : Names
no_names = record { groups = []; hosts = []; tags = [] }

-- the group of a name
abbrev pub group_named : List Group → List ℕ → Option Group
group_named groups name = find (λ g. bytes_eq g.name name) groups

-- the host of a name
abbrev pub host_named : List Host → List ℕ → Option Host
host_named hosts name = find (λ h. bytes_eq h.name name) hosts

-- the entry of a tag
abbrev pub owner_of_tag : List TagOwner → List ℕ → Option TagOwner
owner_of_tag tags tag = find (λ t. bytes_eq t.tag tag) tags
