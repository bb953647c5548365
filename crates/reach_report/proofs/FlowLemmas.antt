-- Destinations of a flow: `autogroup:self` covers by both ends, each other one by the flow's own.
use Rattle.std.proofs.Common.{◌≡◌, true, false, List, refl}
use Rattle.policy_rows.specs.declared.group.Group.{Group}
use Rattle.policy_rows.specs.declared.selector.Selector.{Selector}
use Rattle.policy_rows.specs.declared.selector.Selector.TheVariants as sel
use Rattle.policy_sites.specs.Covers.{covers, dest_covers, is_own_devices, joins_own}
use Rattle.policy_sites.specs.declared.end.End.{End}

pub own_dest : (groups : List Group) (selector : Selector) (s d : End) → is_own_devices selector ≡ true → dest_covers groups selector s d ≡ joins_own s d
own_dest groups sel.All s d h = absurd (cc)
own_dest groups (sel.Net net) s d h = absurd (cc)
own_dest groups (sel.User login) s d h = absurd (cc)
own_dest groups (sel.Group name) s d h = absurd (cc)
own_dest groups (sel.Tagged tag) s d h = absurd (cc)
own_dest groups sel.Member s d h = absurd (cc)
own_dest groups sel.AllTagged s d h = absurd (cc)
own_dest groups sel.Internet s d h = absurd (cc)
own_dest groups sel.OwnDevices s d h = refl

pub other_dest : (groups : List Group) (selector : Selector) (s d : End) → is_own_devices selector ≡ false → dest_covers groups selector s d ≡ covers groups selector d
other_dest groups sel.All s d h = refl
other_dest groups (sel.Net net) s d h = refl
other_dest groups (sel.User login) s d h = refl
other_dest groups (sel.Group name) s d h = refl
other_dest groups (sel.Tagged tag) s d h = refl
other_dest groups sel.Member s d h = refl
other_dest groups sel.AllTagged s d h = refl
other_dest groups sel.Internet s d h = refl
other_dest groups sel.OwnDevices s d h = absurd (cc)
