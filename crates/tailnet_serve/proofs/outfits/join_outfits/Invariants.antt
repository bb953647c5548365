use Rattle.std.proofs.Common.{◌≡◌, ◌≤◌, ℕ, length}
use Rattle.tailnet_serve.proofs.outfits.join_outfits.Given as goal

abbrev pub invariant-loop-outfit : goal.invariant-loop-outfit
invariant-loop-outfit g l = ((k : ℕ) → g.N.Entropy.word l.entropy k ≡ g.N.Entropy.word l.fn.entropy k) × (g.N.Entropy.faults l.fn.entropy ≤ g.N.Entropy.faults l.entropy)

abbrev pub decreases-loop-outfit : goal.decreases-loop-outfit
decreases-loop-outfit g l = length l.outfits.items
