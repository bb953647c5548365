use Rattle.std.proofs.Common.{arith, rules}
use Rattle.policy_rows.proofs.ProtoLemmas.{numbered}
use Rattle.policy_rows.proofs.protocols.protos_numbered.Goals as goal

pub returns : goal.returns
returns c = record {
  value = numbered c.args.number c.as_bytes.result.now _ (omega arith) (omega arith) (search rules) c.read.ensures.value;
}
