-- Whether two nodes, or two profiles, are the same.
use Rattle.std.specs.Prelude.{ℕ, Bool, ◌&&◌, ◌==◌}
use Rattle.std.specs.Bool.{beq}
use Rattle.std.specs.Cmp.Lexicographic.{pointwise}
use Rattle.std.specs.Option.{option_eq}
use Rattle.std.specs.Ordering.{int_eq}
use Rattle.std.specs.Str.{bytes_eq}
use Rattle.tailcfg.specs.declared.node_row.NodeRow.{NodeRow}
use Rattle.tailcfg.specs.declared.profile.Profile.{Profile}
use Rattle.same_maps.specs.Parts.{same_endpoint, same_prefix}

-- who it is: its id, user, keys and names
abbrev pub same_identity : NodeRow → NodeRow → Bool
same_identity a b =
    a.id == b.id && a.user == b.user && bytes_eq a.key.0 b.key.0 && bytes_eq a.machine.0 b.machine.0
    && bytes_eq a.name b.name && bytes_eq a.host b.host

-- what it is allowed: its addresses, what is sent through it, its tags, and its times
abbrev pub same_standing : NodeRow → NodeRow → Bool
same_standing a b =
    pointwise same_prefix a.addresses b.addresses && pointwise same_prefix a.allowed b.allowed
    && pointwise bytes_eq a.tags b.tags && int_eq a.created b.created && option_eq int_eq a.expiry b.expiry

-- all that a patch can't give
abbrev pub same_fixed : NodeRow → NodeRow → Bool
same_fixed a b = same_identity a b && same_standing a b

-- how it is reached: its endpoints, its DERP region, its disco key, and whether it is online
abbrev pub same_contact : NodeRow → NodeRow → Bool
same_contact a b =
    pointwise same_endpoint a.endpoints b.endpoints && a.derp == b.derp && bytes_eq a.disco.0 b.disco.0
    && beq a.online b.online

-- the nodes are the same
abbrev pub same_node_row : NodeRow → NodeRow → Bool
same_node_row a b = same_fixed a b && same_contact a b

-- the profiles are
abbrev pub same_profile : Profile → Profile → Bool
same_profile a b = a.id == b.id && bytes_eq a.login b.login && bytes_eq a.display b.display
