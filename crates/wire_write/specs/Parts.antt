-- Parts of the JSON that is written.
use Rattle.std.specs.Prelude.{ℕ, ℤ, List, [], ◌∷◌, map, codes, Option, Some, None}
use Rattle.serde_json.specs.Data.{Data, number, unsigned, string, array, Members, put}
use Rattle.serde_json.specs.View.{items_of}
use Rattle.net_addr.specs.MomentTexts.{moment_text}
use Rattle.net_addr.specs.Bits.{Block}
use Rattle.net_addr.specs.PrefixTexts.{prefix_text}
use Rattle.net_addr.specs.EndpointTexts.{endpoint_text}
use Rattle.net_addr.specs.declared.endpoint.Endpoint.{Endpoint}
use Rattle.tail_base.specs.Keys.{key_text}
use Rattle.tail_base.specs.declared.key.DiscoKey.{DiscoKey}
use Rattle.tail_base.specs.declared.key.MachineKey.{MachineKey}
use Rattle.tail_base.specs.declared.key.NodeKey.{NodeKey}

-- a whole number
abbrev pub number_data : ℕ → Data
number_data n = number (unsigned n)

-- an array of what the elements are
abbrev pub array_data : {X : Type 0} → (X → Data) → List X → Data
array_data f xs = array (items_of (map f xs))

-- an array, unless it is empty
abbrev pub some_array : {X : Type 0} → (X → Data) → List X → Option Data
some_array f [] = None
some_array f (x ∷ xs) = Some (array_data f (x ∷ xs))

-- the members with one more, where there is one; `put` keeps them in byte order
abbrev pub some_member : List ℕ → Option Data → Members → Members
some_member name None ms = ms
some_member name (Some d) ms = put name d ms

-- a node key: a head and 64 hexadecimal digits
unfoldable pub node_key_data : NodeKey → Data
node_key_data key = string (key_text (codes "nodekey:") key.0)

-- a machine key
unfoldable pub machine_key_data : MachineKey → Data
machine_key_data key = string (key_text (codes "mkey:") key.0)

-- a disco key
unfoldable pub disco_key_data : DiscoKey → Data
disco_key_data key = string (key_text (codes "discokey:") key.0)

-- a prefix with its length
unfoldable pub prefix_data : Block → Data
prefix_data p = string (prefix_text p)

-- an address and a port
unfoldable pub endpoint_data : Endpoint → Data
endpoint_data e = string (endpoint_text e)

-- a time in UTC
unfoldable pub moment_data : ℤ → Data
moment_data t = string (moment_text t)

-- a time that may be unset: then it is Go's zero time
abbrev pub time_data : Option ℤ → Data
time_data None = string (codes "0001-01-01T00:00:00Z")
time_data (Some t) = moment_data t
