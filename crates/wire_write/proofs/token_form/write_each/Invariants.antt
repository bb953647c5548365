use Rattle.std.proofs.Common.{take}
use Rattle.wire_write.specs.Tokens.{Adds, each_tokens}
use Rattle.wire_write.proofs.token_form.write_each.Given as goal

abbrev pub invariant-loop-item : goal.invariant-loop-item
invariant-loop-item g l = Adds (each_tokens g.T.TokenForm.json (take l.item-index l.items)) l.fn.out l.out
