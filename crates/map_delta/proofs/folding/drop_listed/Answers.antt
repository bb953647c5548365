use Rattle.std.proofs.Common.{rules, not}
use Rattle.std.proofs.lemmas.Fn.{filter_same}
use Rattle.tailcfg.specs.declared.node_row.NodeRow.{NodeRow}
use Rattle.map_delta.specs.Fold.{lists_id}
use Rattle.map_delta.proofs.folding.drop_listed.Goals as goal

pub returns : goal.returns
returns c = record { value = filter_same _ (λ (n : NodeRow). not (lists_id c.args.gone.now n.id)) _ (λ x b f' k. search rules) _ _ c.retain.ensures.filtered }
