-- What the types of a response's numbers, keys and tags say of them, beside what its texts tell: ids have 32 bits,
-- ports 16, keys are 32 bytes, and tags are tags.
use Rattle.std.specs.Prelude.{◌≡◌, ◌<◌, ◌^◌, ℕ, true, List, length, IfSome}
use Rattle.std.specs.List.{AllByRecursion}
use Rattle.tail_base.specs.Tags.{is_tag}
use Rattle.tailcfg.specs.declared.filter.DestRange.{DestRange}
use Rattle.tailcfg.specs.declared.filter.FilterRule.{FilterRule}
use Rattle.tailcfg.specs.declared.node_row.NodeRow.{NodeRow}
use Rattle.tailcfg.specs.declared.patch.Patch.{Patch}
use Rattle.tailcfg.specs.declared.profile.Profile.{Profile}
use Rattle.tailcfg.specs.declared.response.Response.{Response}

-- a number of 32 bits
abbrev pub IsId : ℕ → Type 0
IsId n = n < 2 ^ 32

-- a number of 16 bits
abbrev pub IsPort : ℕ → Type 0
IsPort n = n < 2 ^ 16

-- as many bytes as a key has
abbrev pub IsKeyLong : List ℕ → Type 0
IsKeyLong key = length key ≡ 32

-- it is a tag
abbrev pub IsTag : List ℕ → Type 0
IsTag tag = is_tag tag ≡ true

-- The numbers of a node are ids, its keys as long as keys are, and its tags are tags.
pub record IsSizedNode (r : NodeRow) : Type 0 where
  pub id : IsId r.id
  pub user : IsId r.user
  pub key : IsKeyLong r.key.0
  pub machine : IsKeyLong r.machine.0
  pub disco : IsKeyLong r.disco.0
  pub derp : IsId r.derp
  pub tags : AllByRecursion IsTag r.tags

-- the same of what changed of a peer
pub record IsSizedPatch (p : Patch) : Type 0 where
  pub id : IsId p.id
  pub derp : IfSome p.derp IsId
  pub disco : IfSome p.disco (λ key. IsKeyLong key.0)

-- the id of a profile is one
abbrev pub IsSizedProfile : Profile → Type 0
IsSizedProfile p = IsId p.id

-- both ports are ports
abbrev pub IsSizedDest : DestRange → Type 0
IsSizedDest d = IsPort d.ports.first × IsPort d.ports.last

-- the ports of each destination are ports
abbrev pub IsSizedRule : FilterRule → Type 0
IsSizedRule r = AllByRecursion IsSizedDest r.dests

-- Each part of a response has numbers, keys and tags of their types.
pub record IsSizedResponse (r : Response) : Type 0 where
  pub node : IfSome r.node IsSizedNode
  pub filter : IfSome r.filter (AllByRecursion IsSizedRule)
  pub peers : AllByRecursion IsSizedNode r.peers
  pub changed : AllByRecursion IsSizedNode r.changed
  pub removed : AllByRecursion IsId r.removed
  pub patches : AllByRecursion IsSizedPatch r.patches
  pub profiles : AllByRecursion IsSizedProfile r.profiles
