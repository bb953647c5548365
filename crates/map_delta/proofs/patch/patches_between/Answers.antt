use Rattle.std.proofs.Common.{◌≡◌, ◌++◌, Option, Some, None, List, refl, arith, option_to_list}
use Rattle.std.specs.List.{cons_option}
use Rattle.std.proofs.lemmas.Grind.{common_steps}
use Rattle.map_delta.proofs.patch.patches_between.Goals as goal

listed : {T : Type 0} (o : Option T) (xs : List T) → option_to_list o ++ xs ≡ cons_option o xs
listed None xs = refl
listed (Some x) xs = refl

pub loop-node-preserved : goal.loop-node-preserved
loop-node-preserved c = grind (arith, common_steps, listed)
