use Rattle.std.proofs.Common.{◌≡◌, drop}
use Rattle.map_delta.specs.Fold.{patch_rows}
use Rattle.map_delta.proofs.patching.patch_rows.Given as goal

abbrev pub invariant-loop-patch : goal.invariant-loop-patch
invariant-loop-patch l = patch_rows l.nodes.items (drop l.patch-index l.patches) ≡ patch_rows l.fn.nodes.items l.patches
