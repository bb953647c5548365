-- Nodes, peer changes and profiles whose fields have values of their types.
use Rattle.std.specs.Prelude.{IfSome}
use Rattle.std.specs.List.{AllByRecursion}
use Rattle.hex.specs.Hex.{IsBytes}
use Rattle.net_addr.specs.Bits.{IsBlock}
use Rattle.net_addr.specs.Moments.{IsMoment}
use Rattle.tailcfg.specs.declared.node_row.NodeRow.{NodeRow}
use Rattle.tailcfg.specs.declared.patch.Patch.{Patch}
use Rattle.tailcfg.specs.declared.profile.Profile.{Profile}
use Rattle.response_values.specs.Values.{FitsWord, IsTypedEndpoint}

-- The fields have values of their types.
pub record IsTypedNode (r : NodeRow) : Type 0 where
  pub id : FitsWord r.id
  pub user : FitsWord r.user
  pub key : IsBytes r.key.0
  pub machine : IsBytes r.machine.0
  pub disco : IsBytes r.disco.0
  pub addresses : AllByRecursion IsBlock r.addresses
  pub allowed : AllByRecursion IsBlock r.allowed
  pub endpoints : AllByRecursion IsTypedEndpoint r.endpoints
  pub derp : FitsWord r.derp
  pub created : IsMoment r.created
  pub expiry : IfSome r.expiry IsMoment

-- The fields have values of their types.
pub record IsTypedPatch (p : Patch) : Type 0 where
  pub id : FitsWord p.id
  pub derp : IfSome p.derp FitsWord
  pub disco : IfSome p.disco (λ key. IsBytes key.0)
  pub endpoints : IfSome p.endpoints (AllByRecursion IsTypedEndpoint)

-- the id is a number
abbrev pub IsTypedProfile : Profile → Type 0
IsTypedProfile p = FitsWord p.id
