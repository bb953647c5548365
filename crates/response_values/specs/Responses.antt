-- Responses whose fields have values of their types.
use Rattle.std.specs.Prelude.{IfSome, List}
use Rattle.std.specs.List.{AllByRecursion}
use Rattle.tailcfg.specs.declared.response.Response.{Response}
use Rattle.response_values.specs.Dns.{IsTypedDns}
use Rattle.response_values.specs.Filters.{IsTypedRule}
use Rattle.response_values.specs.Nodes.{IsTypedNode, IsTypedPatch, IsTypedProfile}
use Rattle.response_values.specs.Values.{FitsWord}

-- The number of its session fits 64 bits, and the fields of each part have values of their types.
pub record IsTypedResponse (r : Response) : Type 0 where
  pub seq : IfSome r.seq FitsWord
  pub node : IfSome r.node IsTypedNode
  pub filter : IfSome r.filter (AllByRecursion IsTypedRule)
  pub dns : IfSome r.dns IsTypedDns
  pub peers : AllByRecursion IsTypedNode r.peers
  pub changed : AllByRecursion IsTypedNode r.changed
  pub removed : AllByRecursion FitsWord r.removed
  pub patches : AllByRecursion IsTypedPatch r.patches
  pub profiles : AllByRecursion IsTypedProfile r.profiles

-- each is one
abbrev pub AreTypedResponses : List Response → Type 0
AreTypedResponses rs = AllByRecursion IsTypedResponse rs
