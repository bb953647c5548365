-- The body of a registration (`tailcfg.RegisterRequest`), as far as it is read.
use Rattle.std.specs.Prelude.{ℕ, List, [], false, Option, Some, None, Result, Ok, unwrap_or}
use Rattle.std.specs.Result.{result_ok}
use Rattle.serde_json.specs.Data.{Data}
use Rattle.serde_json.specs.Find.{as_str, as_bool}
use Rattle.net_addr.specs.Bits.{Block}
use Rattle.net_addr.specs.PrefixTexts.{prefix_of_text}
use Rattle.net_addr.specs.Routes.{sorted_routes}
use Rattle.tail_base.specs.Tags.{tag_of}
use Rattle.tailcfg.specs.declared.limits.TheConstants.{ASKED_TAG_LIMIT, HOST_LIMIT, ROUTE_LIMIT}
use Rattle.tailcfg.specs.declared.register.Register.{Register}
use Rattle.tail_base.specs.Steps.{◌>>=◌}
use Rattle.wire_json.specs.Body.{object_at, body_value}
use Rattle.wire_json.specs.Readers.{required, optional, object_of, node_key, some_node_key, some_time, some_short_text, short_list}
use Rattle.wire_json.specs.declared.field.Field.TheVariants as field
use Rattle.wire_json.specs.declared.fault.WireFault.{WireFault}

-- the prefix that a text spells
abbrev pub prefix_spelled : List ℕ → Option Block
prefix_spelled text = result_ok (prefix_of_text text)

-- the fields in their order: the first fault counts
unfoldable pub register_at : Data → Result Register WireFault
register_at d = do
  node ← required field.NodeKey node_key (Some d)
  old ← optional field.OldNodeKey None some_node_key (Some d)
  authority ← object_of field.Auth (Some d)
  auth ← optional field.AuthKey [] as_str authority
  expiry ← optional field.Expiry None some_time (Some d)
  ephemeral ← optional field.Ephemeral false as_bool (Some d)
  info ← object_of field.Hostinfo (Some d)
  host ← optional field.Hostname None (some_short_text HOST_LIMIT) info
  routes ← optional field.RoutableIps [] (short_list ROUTE_LIMIT prefix_spelled) info
  tags ← optional field.RequestTags [] (short_list ASKED_TAG_LIMIT tag_of) info
  Ok (record { node = node; old = old; auth = auth; expiry = expiry; ephemeral = ephemeral; host = unwrap_or host []; routes = sorted_routes routes; tags = tags })

-- the registration that a body is, or its first fault
abbrev pub register_of_body : List ℕ → Result Register WireFault
register_of_body body = object_at (body_value body) >>= register_at
