-- Which DNS settings the server writes.
use Rattle.std.specs.List.Sorted.{IsStrictlySortedBy}
use Rattle.settings.specs.Settings.{suffix_cmp}
use Rattle.tailcfg.specs.declared.dns.Dns.{Dns}
use Rattle.response_values.specs.Dns.{IsTypedDns}

-- the suffixes of routes stand in byte order, each once, as the keys of a settings file's table do
abbrev pub DoSuffixesRise : Dns → Type 0
DoSuffixesRise d = IsStrictlySortedBy suffix_cmp d.settings.routes

-- the fields have values of their types, and the suffixes rise
abbrev pub IsWrittenDns : Dns → Type 0
IsWrittenDns d = IsTypedDns d × DoSuffixesRise d
