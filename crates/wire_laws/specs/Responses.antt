-- Which responses the server writes.
use Rattle.std.specs.Prelude.{IfSome}
use Rattle.std.specs.List.{AllByRecursion}
use Rattle.tailcfg.specs.declared.response.Response.{Response}
use Rattle.response_values.specs.Responses.{IsTypedResponse}
use Rattle.wire_laws.specs.Dns.{DoSuffixesRise}
use Rattle.wire_laws.specs.Nodes.{EndsLater}

-- The fields have values of their types; no node's key ends at the first moment, and the suffixes of DNS routes rise.
pub record IsWritten (r : Response) : Type 0 where
  pub typed : IsTypedResponse r
  pub node : IfSome r.node EndsLater
  pub peers : AllByRecursion EndsLater r.peers
  pub changed : AllByRecursion EndsLater r.changed
  pub dns : IfSome r.dns DoSuffixesRise
