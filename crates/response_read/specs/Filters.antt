-- Packet filters (`tailcfg.FilterRule`) as they are read.
use Rattle.std.specs.Prelude.{ℕ, List, [], ◌∷◌, Bool, true, false, ◌&&◌, nat_lt, Option, Some, None, Result, Ok, codes, if◌then◌else◌}
use Rattle.std.specs.Option.{option_map, option_or}
use Rattle.std.specs.Str.{bytes_eq}
use Rattle.serde_json.specs.Data.{Data, Items, no_items, item}
use Rattle.serde_json.specs.Find.{as_array, as_str}
use Rattle.net_addr.specs.AddrTexts.{addr_of_text}
use Rattle.net_addr.specs.Bits.{Block}
use Rattle.net_addr.specs.Blocks.{prefix_of_addr}
use Rattle.port_sets.specs.declared.range.PortRange.{PortRange}
use Rattle.tail_base.specs.Steps.{◌>>=◌, refuse_unless}
use Rattle.tailcfg.specs.declared.filter.DestRange.{DestRange}
use Rattle.tailcfg.specs.declared.filter.FilterRule.{FilterRule}
use Rattle.tailcfg.specs.declared.filter.Sources.{Sources}
use Rattle.tailcfg.specs.declared.filter.Sources.TheVariants.{Any, Only}
use Rattle.response_read.specs.Members.{all_read, due, each_read, fitting}
use Rattle.response_read.specs.Values.{prefix_in, octet_at, port_at, spelled_at}
use Rattle.response_read.specs.declared.misfit.Misfit.{Misfit}
use Rattle.response_read.specs.declared.misfit.Misfit.TheVariants.{NotResponse}

-- an address, or a prefix with its length
abbrev pub span_in : List ℕ → Option Block
span_in text = option_or (option_map prefix_of_addr (addr_of_text text)) (prefix_in text)

-- the text `*`
abbrev pub is_star : Option (List ℕ) → Bool
is_star None = false
is_star (Some text) = bytes_eq text (codes "*")

-- the text `*` and no more, which is every address
abbrev pub is_only_star : Items → Bool
is_only_star no_items = false
is_only_star (item d no_items) = is_star (as_str d)
is_only_star (item d (item e ds)) = false

-- every address, or addresses and prefixes
abbrev pub sources_in : Items → Result Sources Misfit
sources_in ds = if is_only_star ds then Ok Any else (each_read (spelled_at span_in) ds >>= λ spans. Ok (Only spans))

-- that as a list
abbrev pub sources_at : Data → Result Sources Misfit
sources_at d = fitting (as_array d) >>= sources_in

-- ports, from the first to the last (`tailcfg.PortRange`)
unfoldable pub port_range_at : Data → Result PortRange Misfit
port_range_at d = do
  first ← due (codes "First") port_at d
  last ← due (codes "Last") port_at d
  Ok (record { first = first; last = last })

-- addresses and ports (`tailcfg.NetPortRange`)
unfoldable pub dest_range_at : Data → Result DestRange Misfit
dest_range_at d = do
  to ← due (codes "IP") (spelled_at span_in) d
  ports ← due (codes "Ports") port_range_at d
  Ok (record { to = to; ports = ports })

-- each number is above the one before, and the first above that
abbrev pub climb_from : ℕ → List ℕ → Bool
climb_from low [] = true
climb_from low (n ∷ ns) = nat_lt low n && climb_from n ns

-- numbers of protocols from 1 to 255, each above the one before
abbrev pub protos_at : Data → Result (List ℕ) Misfit
protos_at d = do
  protos ← all_read octet_at d
  _ ← refuse_unless (climb_from 0 protos) NotResponse
  Ok protos

-- a rule, of which each field is there
unfoldable pub filter_rule_at : Data → Result FilterRule Misfit
filter_rule_at d = do
  dests ← due (codes "DstPorts") (all_read dest_range_at) d
  protos ← due (codes "IPProto") protos_at d
  sources ← due (codes "SrcIPs") sources_at d
  Ok (record { sources = sources; dests = dests; protos = protos })
