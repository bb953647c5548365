-- The body of a map request (`tailcfg.MapRequest`), as far as it is read.
use Rattle.std.specs.Prelude.{ℕ, List, [], ◌==◌, if◌then◌else◌, false, Option, Some, None, Result, Ok, Err, length, ◌^◌, ◌-◌}
use Rattle.serde_json.specs.Data.{Data}
use Rattle.serde_json.specs.Find.{as_str, as_bool}
use Rattle.net_addr.specs.EndpointTexts.{endpoint_of_text}
use Rattle.net_addr.specs.Routes.{sorted_routes}
use Rattle.tailcfg.specs.declared.limits.TheConstants.{ENDPOINT_LIMIT, HOST_LIMIT, REGION_LIMIT, ROUTE_LIMIT}
use Rattle.tailcfg.specs.declared.host_update.HostUpdate.{HostUpdate}
use Rattle.tailcfg.specs.declared.map_ask.MapAsk.{MapAsk}
use Rattle.tailcfg.specs.declared.update.Update.{Update}
use Rattle.tail_base.specs.Steps.{◌>>=◌}
use Rattle.wire_json.specs.Body.{field_of, object_at, body_value}
use Rattle.wire_json.specs.Readers.{required, optional, object_of, node_key, some_disco_key, some_short_text, short_list, whole_up_to}
use Rattle.wire_json.specs.Register.{prefix_spelled}
use Rattle.wire_json.specs.declared.field.Field.TheVariants as field
use Rattle.wire_json.specs.declared.fault.WireFault.{WireFault}
use Rattle.wire_json.specs.declared.fault.WireFault.TheVariants as fault

-- no answer is compressed: only an empty text asks for none
abbrev pub unless_named : Option (List ℕ) → Result (Unit {0}) WireFault
unless_named None = Err fault.Compressed
unless_named (Some name) = if length name == 0 then Ok tt else Err fault.Compressed

-- the field is absent, or an empty text
abbrev pub uncompressed : Option Data → Result (Unit {0}) WireFault
uncompressed None = Ok tt
uncompressed (Some d) = unless_named (as_str d)

-- the DERP region of a machine's network, where that is told: 0 where it has none
abbrev pub derp_of : Option Data → Result (Option ℕ) WireFault
derp_of None = Ok None
derp_of (Some net) = optional field.PreferredDerp 0 (whole_up_to REGION_LIMIT) (Some net) >>= (λ derp. Ok (Some derp))

-- what is known of the host
unfoldable pub host_at : Data → Result HostUpdate WireFault
host_at d = do
  name ← optional field.Hostname None (some_short_text HOST_LIMIT) (Some d)
  net ← object_of field.NetInfo (Some d)
  derp ← derp_of net
  routes ← optional field.RoutableIps [] (short_list ROUTE_LIMIT prefix_spelled) (Some d)
  Ok (record { name = name; derp = derp; routes = sorted_routes routes })

-- the host, where it is told of
abbrev pub some_host : Option Data → Result (Option HostUpdate) WireFault
some_host None = Ok None
some_host (Some d) = host_at d >>= (λ host. Ok (Some host))

-- what a machine tells of itself
unfoldable pub update_at : Data → Result Update WireFault
update_at d = do
  endpoints ← optional field.Endpoints [] (short_list ENDPOINT_LIMIT endpoint_of_text) (Some d)
  disco ← optional field.DiscoKey None some_disco_key (Some d)
  info ← object_of field.Hostinfo (Some d)
  host ← some_host info
  Ok (record { endpoints = endpoints; disco = disco; host = host })

-- the fields in their order: the first fault counts
unfoldable pub map_ask_at : Data → Result MapAsk WireFault
map_ask_at d = do
  plain ← uncompressed (field_of field.Compress (Some d))
  node ← required field.NodeKey node_key (Some d)
  stream ← optional field.Stream false as_bool (Some d)
  omit_peers ← optional field.OmitPeers false as_bool (Some d)
  read_only ← optional field.ReadOnly false as_bool (Some d)
  handle ← optional field.MapSessionHandle [] as_str (Some d)
  seq ← optional field.MapSessionSeq 0 (whole_up_to (2 ^ 64 - 1)) (Some d)
  update ← update_at d
  Ok (record { node = node; stream = stream; omit_peers = omit_peers; read_only = read_only; handle = handle; seq = seq; update = update })

-- the map request that a body is, or its first fault
abbrev pub map_ask_of_body : List ℕ → Result MapAsk WireFault
map_ask_of_body body = object_at (body_value body) >>= map_ask_at
