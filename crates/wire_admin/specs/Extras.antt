-- Extra DNS records as operators are shown them: keys in byte order, without spaces.
use Rattle.std.specs.Prelude.{ℕ, List}
use Rattle.serde_json.specs.Written.{compact_text}
use Rattle.tailcfg.specs.declared.dns.DnsExtra.{DnsExtra}
use Rattle.wire_write.specs.Dns.{extra_data}
use Rattle.wire_write.specs.Parts.{array_data}

-- the records in their order, as maps have them
abbrev pub extras_text : List DnsExtra → List ℕ
extras_text extras = compact_text (array_data extra_data extras)
