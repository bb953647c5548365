-- Ends of flows: an address, if there is one, and who holds it.
use Rattle.std.specs.Prelude.{List, Some, None}
use Rattle.std.specs.List.{find}
use Rattle.std.specs.Option.{option_map}
use Rattle.net_addr.specs.Bits.{Address}
use Rattle.policy_sites.specs.Sites.{site_has}
use Rattle.policy_sites.specs.declared.end.End.{End}
use Rattle.policy_sites.specs.declared.end.Holder.{Holder}
use Rattle.policy_sites.specs.declared.site.Site.{Site}

-- who holds a site's addresses
abbrev pub holder_of : Site → Holder
holder_of site = record { user = site.user; login = site.login; tags = site.tags }

-- the end that an address is: held, if one of the sites has it
abbrev pub end_at : List Site → Address → End
end_at sites addr = record { addr = Some addr; holder = option_map holder_of (find (site_has addr) sites) }

-- the end that an address is which no site has
abbrev pub free_end : Address → End
free_end addr = record { addr = Some addr; holder = None }
