use Rattle.std.proofs.Common.{◌≡◌, ◌++◌, drop}
use Rattle.std.specs.Option.{option_copied}
use Rattle.std.specs.Prelude.{map, filter}
use Rattle.policy_sites.specs.Sites.{is_among, site_of}
use Rattle.policy_sites.proofs.site.sites_among.Given as goal

-- with the sites of the machines to come these are all
abbrev pub invariant-loop-machine : goal.invariant-loop-machine
invariant-loop-machine l =
    l.sites ++ map (site_of (option_copied l.policy) l.tables.rows.users) (filter (is_among l.live) (drop l.machine-index l.machines))
    ≡ map (site_of (option_copied l.policy) l.tables.rows.users) (filter (is_among l.live) l.machines)
