-- Responses of a map session (`tailcfg.MapResponse`) as they are read.
use Rattle.std.specs.Prelude.{ℕ, List, Option, None, Result, Ok, codes, option_and_then}
use Rattle.std.specs.Result.{result_ok}
use Rattle.serde_json.specs.Data.{Data}
use Rattle.tail_base.specs.Steps.{◌>>=◌}
use Rattle.tailcfg.specs.Responses.{bare_response}
use Rattle.tailcfg.specs.declared.response.Response.{Response}
use Rattle.wire_json.specs.Body.{body_value, object_at}
use Rattle.response_read.specs.Dns.{dns_settings_at}
use Rattle.response_read.specs.Filters.{filter_rule_at}
use Rattle.response_read.specs.Members.{all_given, all_read, if_given}
use Rattle.response_read.specs.Nodes.{node_at, peer_change_at, profile_at}
use Rattle.response_read.specs.Values.{id_at, seq_at, words_at}
use Rattle.response_read.specs.declared.misfit.Misfit.{Misfit}

-- with what an object says of the machine itself
unfoldable pub with_own : Response → Data → Result Response Misfit
with_own r d = do
  dns ← if_given (codes "DNSConfig") dns_settings_at d
  domain ← if_given (codes "Domain") words_at d
  node ← if_given (codes "Node") node_at d
  filter ← if_given (codes "PacketFilter") (all_read filter_rule_at) d
  Ok (record r { dns = dns; domain = domain; node = node; filter = filter })

-- with what it says of peers and their users
unfoldable pub with_peers : Response → Data → Result Response Misfit
with_peers r d = do
  peers ← all_given (codes "Peers") node_at d
  changed ← all_given (codes "PeersChanged") node_at d
  patches ← all_given (codes "PeersChangedPatch") peer_change_at d
  removed ← all_given (codes "PeersRemoved") id_at d
  profiles ← all_given (codes "UserProfiles") profile_at d
  Ok (record r { peers = peers; changed = changed; patches = patches; removed = removed; profiles = profiles })

-- with what it says of the session
unfoldable pub with_session : Response → Data → Result Response Misfit
with_session r d = do
  handle ← if_given (codes "MapSessionHandle") words_at d
  seq ← if_given (codes "Seq") seq_at d
  Ok (record r { handle = handle; seq = seq })

-- The response that an object is. Each field may be absent, and each but `PacketFilter` is as absent where it
-- is an empty list.
unfoldable pub response_at : Data → Result Response Misfit
response_at d = with_own (bare_response None) d >>= λ own. with_peers own d >>= λ peers. with_session peers d

-- the response that a body is, if it is one: a JSON text in UTF-8 whose value is such an object
abbrev pub response_of_body : List ℕ → Option Response
response_of_body body = option_and_then (λ d. result_ok (response_at d)) (result_ok (object_at (body_value body)))
