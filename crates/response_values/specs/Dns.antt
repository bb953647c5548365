-- DNS settings whose fields have values of their types.
use Rattle.std.specs.List.{AllByRecursion}
use Rattle.tailcfg.specs.declared.dns.Dns.{Dns}
use Rattle.tailcfg.specs.declared.dns.DnsExtra.{DnsExtra}
use Rattle.tailcfg.specs.declared.dns.DnsRoute.{DnsRoute}
use Rattle.response_values.specs.Values.{IsTypedAddr}

-- the resolvers are addresses
abbrev pub IsTypedRoute : DnsRoute → Type 0
IsTypedRoute r = AllByRecursion IsTypedAddr r.resolvers

-- the address is one
abbrev pub IsTypedRecord : DnsExtra → Type 0
IsTypedRecord e = IsTypedAddr e.addr

-- The fields have values of their types.
pub record IsTypedDns (d : Dns) : Type 0 where
  pub resolvers : AllByRecursion IsTypedAddr d.settings.resolvers
  pub routes : AllByRecursion IsTypedRoute d.settings.routes
  pub extras : AllByRecursion IsTypedRecord d.extras
