-- The text of a response that has peers, in parts: what stands before their rows, the rows with commas
-- between them, and what stands behind.
use Rattle.std.specs.Prelude.{ℕ, List, [], ◌∷◌, ◌++◌, codes, flat_map, Option, option_map}
use Rattle.json.specs.Token.{Token, key, begin_array, begin_object, end_array}
use Rattle.json.specs.Print.{print}
use Rattle.serde_json.specs.Data.{Data, string}
use Rattle.serde_json.specs.Written.{compact_text}
use Rattle.tailcfg.specs.declared.node_row.NodeRow.{NodeRow}
use Rattle.tailcfg.specs.declared.response.Response.{Response}
use Rattle.wire_write.specs.Parts.{array_data}
use Rattle.wire_write.specs.Dns.{dns_data}
use Rattle.wire_write.specs.Filters.{rule_data}
use Rattle.wire_write.specs.Nodes.{node_data}
use Rattle.wire_write.specs.Responses.{changed_members}
use Rattle.wire_write.specs.Tokens.{closing_tokens, option_tokens}

-- the text of a node
unfoldable pub node_row_text : NodeRow → List ℕ
node_row_text row = compact_text (node_data row)

-- texts, each behind a comma
abbrev pub behind_commas : List (List ℕ) → List ℕ
behind_commas = flat_map (λ text. 44 ∷ text)

-- texts with commas between them
abbrev pub comma_joined : List (List ℕ) → List ℕ
comma_joined [] = []
comma_joined (text ∷ texts) = text ++ behind_commas texts

-- the members before `Peers`
abbrev pub first_members : Response → List (List ℕ × Option Data)
first_members r =
    (codes "DNSConfig", option_map dns_data r.dns) ∷ (codes "Domain", option_map string r.domain)
    ∷ (codes "MapSessionHandle", option_map string r.handle) ∷ (codes "Node", option_map node_data r.node)
    ∷ (codes "PacketFilter", option_map (array_data rule_data) r.filter) ∷ []

-- the tokens of those that there are, behind the opening brace
abbrev pub first_tokens : Response → List Token
first_tokens r = begin_object ∷ flat_map (λ m. option_tokens m.0 m.1) (first_members r)

-- up to the rows of the peers, with the opening bracket
unfoldable pub before_peers : Response → List ℕ
before_peers r = print (first_tokens r ++ key (codes "Peers") ∷ begin_array ∷ [])

-- from the closing bracket on
unfoldable pub behind_peers : Response → List ℕ
behind_peers r = print (end_array ∷ closing_tokens (changed_members r))
